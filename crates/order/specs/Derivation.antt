-- A table that the walk keeps in order (`Order` of walk's Sound) is a derivation order in the terms of docs/FORMAT.md, has no judgment
-- twice, derives each of its judgments, and stays so when it is cut.
use Rattle.std.specs.Prelude.{ℕ, ◌<◌, ◌≡◌, List, ◌∷◌, Bool, true, false, ltb, length}
use Rattle.std.proofs.Common.{arith}
use Rattle.walk.specs.Judgment.{Judgment}
use Rattle.walk.specs.State.{Row}
use Rattle.walk.specs.Demand.{RowAt, newest, older, At, here, there, Cites, none_cited, ◌also◌, RowFollows, AllBelow, no_number, below, DerivationOrder, Distinct, Derives, step, DerivesAll, no_premise, premise, cut, same, more}
use Rattle.walk.specs.Sound.Logic.{Order, empty, ◌atop◌, lifts}

-- a row that states something is below the table's length
pub at_below : {n : ℕ} {j : Judgment} {rs : List Row} → At n j rs → n < length rs
at_below (here e q) = omega arith
at_below (there h) = let l = at_below h in omega arith

all_below : {rs : List Row} {ns : List ℕ} {js : List Judgment} {n : ℕ} → n ≡ length rs → Cites rs ns js → AllBelow n ns
all_below e none_cited = no_number
all_below e (◌also◌ {n = m} h hs) = let l = at_below h in below {m = m} (omega arith) (all_below e hs)

row_follows : {rs : List Row} → Order rs → (n : ℕ) (r : Row) → RowAt n r rs → RowFollows rs r
row_follows empty n r h = elim h [ ]
row_follows (st atop o) n r (newest e) = record { premises = st.premises; cited = lifts (more same) st.cited; follows = st.follows }
row_follows (st atop o) n r (older h) = let f = row_follows o n r h in record { premises = f.premises; cited = lifts (more same) f.cited; follows = f.follows }

lower : {rs : List Row} → Order rs → (n : ℕ) (r : Row) → RowAt n r rs → AllBelow n r.refs
lower empty n r h = elim h [ ]
lower (st atop o) n r (newest e) = all_below e st.cited
lower (st atop o) n r (older h) = lower o n r h

pub derivation_order : {rs : List Row} → Order rs → DerivationOrder rs
derivation_order o = record { follows = row_follows o; lower = lower o }

same_row : {rs : List Row} → Order rs → (m n : ℕ) (j : Judgment) → At m j rs → At n j rs → m ≡ n
same_row empty m n j h _ = elim h [ ]
same_row (st atop o) m n j (here e q) (here f p) = omega arith
same_row (st atop o) m n j (here e q) (there h) = absurd (st.new n (rw q at h))
same_row (st atop o) m n j (there h) (here e q) = absurd (st.new m (rw q at h))
same_row (st atop o) m n j (there h) (there k) = same_row o m n j h k

pub distinct : {rs : List Row} → Order rs → Distinct rs
distinct o = record { same_row = same_row o }

-- the tree of a row: its step, over the trees of the rows that it cites
mutual
  derives_more : {rs : List Row} {r : Row} {j : Judgment} → Derives rs j → Derives (r ∷ rs) j
  derives_more (step h f ts) = step (there h) f (derives_all_more ts)

  derives_all_more : {rs : List Row} {r : Row} {js : List Judgment} → DerivesAll rs js → DerivesAll (r ∷ rs) js
  derives_all_more no_premise = no_premise
  derives_all_more (premise t ts) = premise (derives_more t) (derives_all_more ts)

cited_derive : {rs : List Row} {ns : List ℕ} {js : List Judgment} → ((n : ℕ) (j : Judgment) → At n j rs → Derives rs j) → Cites rs ns js → DerivesAll rs js
cited_derive f none_cited = no_premise
cited_derive f (h also hs) = premise (f _ _ h) (cited_derive f hs)

pub derives : {rs : List Row} → Order rs → (n : ℕ) (j : Judgment) → At n j rs → Derives rs j
derives empty n j h = elim h [ ]
derives (◌atop◌ {r = r} st o) n j (here p q) = step {rule = r.rule} {js = st.premises} (here p q) (rw q st.follows) (derives_all_more (cited_derive (derives o) st.cited))
derives (st atop o) n j (there h) = derives_more (derives o n j h)

-- cut after a row
pub cut_order : (n : ℕ) {rs : List Row} → Order rs → Order (cut n rs)
unfolding cut
cut_order n empty = empty
cut_order n (◌atop◌ {r = r} {rs = rs} st o) = go (ltb n (length rs)) (cut_order n o)
  where
    go : (b : Bool) → Order (cut n rs) → Order (elim b as (λ _. List Row) [ true ↦ cut n rs | false ↦ r ∷ rs ])
    go true k = k
    go false k = st atop o
