-- What words say that are read back: what the proofs of Rejects use.
use Rattle.std.specs.Prelude.{ℕ, suc, ◌<◌, ◌≡◌, refl, List, [], ◌∷◌, length, get_or}
use Rattle.std.proofs.Common.{sym, ap, ◌∙◌, subst, arith}
use Rattle.std.proofs.Math.Option.{Option, none, some}
use Rattle.std.proofs.Math.Decide.{ℕ_discrete}
use Rattle.walk.specs.Judgment.{Judgment}
use Rattle.walk.specs.State.{Row}
use Rattle.walk.specs.Demand.{At, here, there, RowAt, newest, older, AllBelow, no_number, below}
use Rattle.link.specs.Table.{◌>>=◌, concluding, row_word, cited_at, row_at, table_at}

pub nothing : {A : Type 0} {a : A} → none ≡ some a → ⊥
nothing q = let z : ◌≡◌ {A = ℕ} 0 1 = cc in omega arith

-- row i of a table that is read
pub record RowRead (n : ℕ) (R C : List ℕ) (i : ℕ) (table : List Row) : Type 0 where
  pub row : Row
  pub read : row_at n R C i ≡ some row
  pub at : RowAt i row table

pub record TableRead (m n : ℕ) (R C : List ℕ) (table : List Row) : Type 0 where
  pub count : length table ≡ m
  pub each : (i : ℕ) → i < m → RowRead n R C i table

pub table_read : (m n : ℕ) (R C : List ℕ) (table : List Row) → table_at m n R C ≡ some table → TableRead m n R C table
unfolding table_at ◌>>=◌
table_read ℕ.zero n R C table e = let q : [] ≡ table = cc in subst (λ (t : List Row). TableRead 0 n R C t) q (record { count = refl; each = λ i l. absurd (omega arith) })
table_read (ℕ.suc m) n R C table e = go (row_at n R C m) (table_at m n R C) refl (table_read m n R C) e
  where
    go : (o : Option Row) (p : Option (List Row)) → row_at n R C m ≡ o → ((t : List Row) → p ≡ some t → TableRead m n R C t) → (o >>= λ r. p >>= λ rs. some (r ∷ rs)) ≡ some table → TableRead (suc m) n R C table
    go none p q ih f = absurd (nothing f)
    go (some r) none q ih f = absurd (nothing f)
    go (some r) (some rs) q ih f =
        let t = ih rs refl in
        let k : r ∷ rs ≡ table = cc in
        let c = t.count in
        subst (λ (t : List Row). TableRead (suc m) n R C t) k (record { count = ap suc c; each = λ i l. at i (ℕ_discrete i m) t l })
      where
        at : (i : ℕ) → Dec (i ≡ m) → TableRead m n R C rs → i < suc m → RowRead n R C i (r ∷ rs)
        at i (yes e) t l = record { row = r; read = rw e q; at = newest (e ∙ sym t.count) }
        at i (no ne) t l = let x = t.each i (omega arith) in record { row = x.row; read = x.read; at = older x.at }

-- the rows that it cites, and its judgment by what its rule concludes
pub record RowParts (n : ℕ) (R C : List ℕ) (i : ℕ) (row : Row) : Type 0 where
  pub cited : cited_at R i ≡ row.refs
  pub judgment : concluding row.rule n C (row_word 13 R i) (row_word 14 R i) (row_word 15 R i) (row_word 16 R i) (row_word 17 R i) ≡ some row.judgment

pub row_parts : (n : ℕ) (R C : List ℕ) (i : ℕ) (row : Row) → row_at n R C i ≡ some row → RowParts n R C i row
unfolding row_at ◌>>=◌
row_parts n R C i row e = go (concluding (row_word 0 R i) n C (row_word 13 R i) (row_word 14 R i) (row_word 15 R i) (row_word 16 R i) (row_word 17 R i)) refl e
  where
    go : (o : Option Judgment) → concluding (row_word 0 R i) n C (row_word 13 R i) (row_word 14 R i) (row_word 15 R i) (row_word 16 R i) (row_word 17 R i) ≡ o → (o >>= λ j. some (record { rule = row_word 0 R i; refs = cited_at R i; judgment = j })) ≡ some row → RowParts n R C i row
    go none q f = absurd (nothing f)
    go (some j) q f = let k : record { rule = row_word 0 R i; refs = cited_at R i; judgment = j } ≡ row = cc in subst (λ (x : Row). RowParts n R C i x) k (record { cited = refl; judgment = q })

pub all_below : {n : ℕ} {ms : List ℕ} → AllBelow n ms → (k : ℕ) → k < length ms → get_or ms k 0 < n
all_below no_number k l = absurd (omega arith)
all_below (below h hs) ℕ.zero l = h
all_below (below h hs) (ℕ.suc k) l = all_below hs k (omega arith)

row_below : {n : ℕ} {r : Row} {rs : List Row} → RowAt n r rs → n < length rs
row_below (newest e) = omega arith
row_below (older h) = let l = row_below h in omega arith

pub row_same : {n : ℕ} {r r' : Row} {rs : List Row} → RowAt n r rs → RowAt n r' rs → r ≡ r'
row_same (newest e) (newest f) = refl
row_same (newest e) (older k) = let l = row_below k in absurd (omega arith)
row_same (older h) (newest f) = let l = row_below h in absurd (omega arith)
row_same (older h) (older k) = row_same h k

-- a row and what it states
states_row : {n : ℕ} {j : Judgment} {rs : List Row} → At n j rs → (r : Row) × ((j ≡ r.judgment) × RowAt n r rs)
states_row (here {r = r} e q) = (r, (q, newest e))
states_row (there h) = let (r, (q, k)) = states_row h in (r, (q, older k))

pub row_states : {n : ℕ} {r : Row} {rs : List Row} → RowAt n r rs → At n r.judgment rs
row_states (newest e) = here e refl
row_states (older h) = there (row_states h)

pub states_same : {n : ℕ} {i j : Judgment} {rs : List Row} → At n i rs → At n j rs → i ≡ j
states_same h k = let (r, (p, a)) = states_row h in let (r', (q, b)) = states_row k in p ∙ ap (λ (x : Row). x.judgment) (row_same a b) ∙ sym q
