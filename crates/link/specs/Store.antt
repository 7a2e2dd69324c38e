-- What the words of the store and of the table stand for, and how they are searched. Assumes nothing.
use Rattle.std.specs.Prelude.{ℕ, zero, suc, ◌+◌, ◌*◌, ◌%◌, ◌<◌, ◌≡◌, refl, List, [], ◌∷◌, ◌++◌, Bool, true, false, length, get_or, set, eqb, T, Some, None}
use Rattle.std.proofs.Common.{sym, ap, ◌∙◌, subst, append_assoc, arith, add-zero, length-append, eqb→eq, lit<}
use Rattle.std.proofs.Math.Option.{Option, none, some}
use Rattle.std.proofs.lemmas.List.Edits.{sets}
use Rattle.std.proofs.Math.Dec.{eqb_refl}
use Rattle.ast.specs.Words.{ifb, all_eq}
use Rattle.ast.specs.Cells.{Found, or_else, on_found, last_of, cell_of, quote_of, hides_first, shows_first, shows_second, shows_third, look_1, look_2, look_3, same_node, same_look}
use Rattle.ast.specs.Nodes.{look_hash}
use Rattle.ast.specs.declared.cells.Cell.{Cell as Words}
use Rattle.producer.specs.declared.rows.Refs.{Refs}
use Rattle.producer.specs.Machine.{cited, same_row}
use Rattle.walk.specs.Syntax.{Interval, I0, I1, Dim, Neg, Meet, Join, Term, Universe, Var, Nat, Zero, Pi, Lam, App, Path, PathLam, PathApp, Sigma, Pair, Fst, Snd, Context, Nil, Cons}
use Rattle.walk.specs.Judgment.{Judgment, judgment?}
use Rattle.walk.specs.State.{Row, Thing, term, interval, context, inference, Key, key, Memory, thing?, row_of, among, recall, of_interval, of_term, of_context}
use Rattle.link.specs.Lists.{yes?, found_of, first, Nth, here, there, nth_below, Extends, same, more, extends_trans, Blocks, no_block, block, blocks_length, Read, read, written}
use Rattle.link.specs.Things.{Shown, a_memory, shown?, show, Cell, Low, is_thing, shows, cell_lift, low_lift, cell_nth, cell_same, cell_number, Plain, Seen, Held, Known, none_left, known, known_append, known_head, known_tail}
use Rattle.link.specs.Tables.{Shape, s_universe, s_var, s_nat, s_zero, s_pi, s_lam, s_app, s_path, s_plam, s_papp, s_sigma, s_pair, s_fst, s_snd, s_i0, s_i1, s_dim, s_neg, s_meet, s_join, s_nil, s_cons, s_lift, s_same, s_words, s_plain, Look, l_universe, l_var, l_nat, l_zero, l_pi, l_lam, l_app, l_path, l_plam, l_papp, l_sigma, l_pair, l_fst, l_snd, l_i0, l_i1, l_dim, l_neg, l_meet, l_join, l_nil, l_cons, l_lift, l_same, l_words, l_plain, Spoken, j_lift, j_same, j_words, parts, shape_known}

-- the cited rows as a row has them: how many, and ten places
abbrev pub refs_of : List ℕ → Refs
refs_of l = record { count = length l; rows = get_or l 0 0 ∷ get_or l 1 0 ∷ get_or l 2 0 ∷ get_or l 3 0 ∷ get_or l 4 0 ∷ get_or l 5 0 ∷ get_or l 6 0 ∷ get_or l 7 0 ∷ get_or l 8 0 ∷ get_or l 9 0 ∷ [] }

-- the words of a cell, over the cells below; its children in the index are any words
pub data Block (xs : List Thing) : Thing → List ℕ → Type 0 where
  plain : {k a b c q m n : ℕ} {t : Thing} → Shape xs k a b c t → Low q (show t) (t ∷ xs) → Block xs t (k ∷ a ∷ b ∷ c ∷ q ∷ 0 ∷ m ∷ n ∷ [])
  remembered : {d g t w row m n : ℕ} {g' : Context} {t' : Term} → Cell g (context g') xs → Cell t (term t') xs → Block xs (inference (key d g' t')) (40 ∷ d ∷ g ∷ t ∷ w ∷ row ∷ m ∷ n ∷ [])

-- a row with the number of a call, and with its children in the index
abbrev pub row_words : ℕ → Refs → (kind count a b c d e made m n o p : ℕ) → List ℕ
row_words rule l kind count a b c d e made m n o p = rule ∷ l.count ∷ cited l 0 ∷ cited l 1 ∷ cited l 2 ∷ cited l 3 ∷ cited l 4 ∷ cited l 5 ∷ cited l 6 ∷ cited l 7 ∷ cited l 8 ∷ cited l 9 ∷ count ∷ a ∷ b ∷ c ∷ d ∷ e ∷ made ∷ kind ∷ m ∷ n ∷ o ∷ p ∷ []

-- the words of a row; the number of its call is any word
pub data Line (xs : List Thing) (rs : List Row) : Row → List ℕ → Type 0 where
  line : {kind count a b c d e made m n o p : ℕ} {r : Row} → Spoken xs kind count a b c d e r.judgment → Line xs rs r (row_words r.rule (refs_of r.refs) kind count a b c d e made m n o p)

abbrev pub Cells : List Thing → List ℕ → Type 0
Cells = Blocks 8 Block

abbrev pub Lines : List Thing → List Row → List ℕ → Type 0
Lines xs = Blocks 24 (Line xs)

-- a new cell changes no row
pub lines_lift : {xs ys : List Thing} {rs : List Row} {ws : List ℕ} → Extends xs ys → Lines xs rs ws → Lines ys rs ws
lines_lift e no_block = no_block
lines_lift e (block (line s) z h) = block (line (j_lift e s)) z (lines_lift e h)

-- a child that is set
abbrev pub row_place : ℕ → ℕ
row_place h = 20 + h % 4

pub line_set : {xs : List Thing} (h v : ℕ) (rs : List Row) (r : Row) (bs : List ℕ) → Line xs rs r bs → Line xs rs r (set bs (row_place h) v)
line_set {xs} h v rs r bs l = go (h % 4) (omega arith) l
  where
    go : {bs : List ℕ} (j : ℕ) → j < 4 → Line xs rs r bs → Line xs rs r (set bs (20 + j) v)
    go zero i (line s) = line s
    go (suc zero) i (line s) = line s
    go (suc (suc zero)) i (line s) = line s
    go (suc (suc (suc zero))) i (line s) = line s
    go (suc (suc (suc (suc j)))) i (line s) = absurd (let z : ⊥ = omega arith in z)

-- the number of a call that is set
pub line_made : {xs : List Thing} (v : ℕ) (rs : List Row) (r : Row) (bs : List ℕ) → Line xs rs r bs → Line xs rs r (set bs 18 v)
line_made v rs r bs (line s) = line s

abbrev pub cell_place : ℕ → ℕ
cell_place h = 6 + h % 2

pub block_set : (h v : ℕ) (xs : List Thing) (x : Thing) (bs : List ℕ) → Block xs x bs → Block xs x (set bs (cell_place h) v)
block_set h v xs x bs b = go (h % 2) (omega arith) b
  where
    go : {x : Thing} {bs : List ℕ} (j : ℕ) → j < 2 → Block xs x bs → Block xs x (set bs (6 + j) v)
    go zero i (plain s q) = plain s q
    go zero i (remembered g t) = remembered g t
    go (suc zero) i (plain s q) = plain s q
    go (suc zero) i (remembered g t) = remembered g t
    go (suc (suc j)) i b = absurd (let z : ⊥ = omega arith in z)

-- four words against four
pub record Four (a b c d a' b' c' d' : ℕ) : Type 0 where
  pub one : a ≡ a'
  pub two : b ≡ b'
  pub three : c ≡ c'
  pub four : d ≡ d'

pub eqb_true : (m n : ℕ) → eqb m n ≡ true → m ≡ n
eqb_true m n e = eqb→eq m n (rw e tt)

pub eqb_self : (n : ℕ) → eqb n n ≡ true
eqb_self n = go (eqb n n) (eqb_refl n)
  where
    go : (b : Bool) → T b → b ≡ true
    go true t = refl
    go false t = absurd t

pub ifb_true : (a b : Bool) → ifb a b false ≡ true → (a ≡ true) × (b ≡ true)
ifb_true true b e = (refl, e)
ifb_true false b e = let z : ◌≡◌ {A = ℕ} 0 1 = cc in absurd (omega arith)

pub all_eq_true : (a b c d a' b' c' d' : ℕ) → all_eq a b c d a' b' c' d' ≡ true → Four a b c d a' b' c' d'
unfolding all_eq
all_eq_true a b c d a' b' c' d' e =
    let p = ifb_true (eqb a a') _ e in
    let q = ifb_true (eqb b b') _ p.1 in
    let r = ifb_true (eqb c c') (eqb d d') q.1 in
    record { one = eqb_true a a' p.0; two = eqb_true b b' q.0; three = eqb_true c c' r.0; four = eqb_true d d' r.1 }

pub all_eq_self : (a b c d : ℕ) → all_eq a b c d a b c d ≡ true
unfolding all_eq
all_eq_self a b c d = rw (eqb_self a, eqb_self b, eqb_self c, eqb_self d)

-- a test that decides
pub decides : {P : Type 0} (b : Bool) (d : Dec P) → (b ≡ true → P) → (P → b ≡ true) → b ≡ yes? d
decides true (yes h) f g = refl
decides false (yes h) f g = g h
decides true (no h) f g = absurd (h (f refl))
decides false (no h) f g = refl

-- a cell that is read
abbrev pub cell_by : (kind a b c low : ℕ) → Words
cell_by kind a b c low = record { kind = kind; a = a; b = b; c = c; quote = low }

pub record Opens (n : ℕ) (x : Thing) (xs : List Thing) (all : List ℕ) : Type 0 where
  pub kind : ℕ
  pub a : ℕ
  pub b : ℕ
  pub c : ℕ
  pub low : ℕ
  pub words : cell_of all n ≡ cell_by kind a b c low
  pub shape : Shape xs kind a b c x
  pub lowest : Low low (show x) xs

cell_read : (n : ℕ) (all bs : List ℕ) → ((k : ℕ) → k < 8 → get_or all (n * 8 + k) 0 ≡ get_or bs k 0) → cell_of all n ≡ cell_by (get_or bs 0 0) (get_or bs 1 0) (get_or bs 2 0) (get_or bs 3 0) (get_or bs 4 0)
unfolding cell_of
cell_read n all bs f = let z = rw add-zero at (f 0 (lit< tt)) in rw (z, f 1 (lit< tt), f 2 (lit< tt), f 3 (lit< tt), f 4 (lit< tt))

pub quote_is : {n : ℕ} {x : Thing} {xs : List Thing} {all : List ℕ} (r : Opens n x xs all) → quote_of all n ≡ r.low
unfolding cell_of quote_of
quote_is r = ap (λ (w : Words). w.quote) r.words

drop_one : {A : Type 0} {x : A} {xs ys : List A} → Extends (x ∷ xs) ys → Extends xs ys
drop_one e = extends_trans (more same) e

pub opens : {n : ℕ} {x : Thing} {xs : List Thing} {ws : List ℕ} (rest : List ℕ) → Plain x → Nth n x xs → Cells xs ws → Opens n x xs (ws ++ rest)
opens {n} {x} {xs} {ws} rest p h cs = go p (read rest h cs)
  where
    go : {x : Thing} → Plain x → Read 8 Block n x xs (ws ++ rest) → Opens n x xs (ws ++ rest)
    go p r = at p r.is r.at r.under
      where
        at : {y : Thing} {ys : List Thing} {bs : List ℕ} → Plain y → Block ys y bs → ((k : ℕ) → k < 8 → get_or (ws ++ rest) (n * 8 + k) 0 ≡ get_or bs k 0) → Extends (y ∷ ys) xs → Opens n y xs (ws ++ rest)
        at p (plain {k = k} {a = a} {b = b} {c = c} {q = q} {m = m} {n = l} s w) f e = record { kind = k; a = a; b = b; c = c; low = q; words = cell_read n (ws ++ rest) (k ∷ a ∷ b ∷ c ∷ q ∷ 0 ∷ m ∷ l ∷ []) f; shape = s_lift (drop_one e) s; lowest = low_lift e w }
        at p (remembered g t) f e = absurd p

no_40 : (k d g t a b c : ℕ) → eqb 40 k ≡ false → all_eq 40 d g t k a b c ≡ false
unfolding all_eq
no_40 k d g t a b c e = rw e

-- the test of a cell by its parts tells whether it is the one
shape_test : {xs : List Thing} {k a b c k' a' b' c' : ℕ} {x y : Thing} → Shape xs k a b c x → Shape xs k' a' b' c' y → all_eq k' a' b' c' k a b c ≡ is_thing x y
unfolding is_thing
shape_test {xs} {k} {a} {b} {c} {k'} {a'} {b'} {c'} {x} {y} s s' = decides (all_eq k' a' b' c' k a b c) (thing? x y) (λ q. to (all_eq_true k' a' b' c' k a b c q)) from
  where
    to : Four k' a' b' c' k a b c → x ≡ y
    to f = s_same s (rw (f.one, f.two, f.three, f.four) at s')

    from : x ≡ y → all_eq k' a' b' c' k a b c ≡ true
    from q =
        let w = s_words s (rw (← q) at s') in
        let e₁ : k' ≡ k = cc in
        let e₂ : a' ≡ a = cc in
        let e₃ : b' ≡ b = cc in
        let e₄ : c' ≡ c = cc in
        rw (e₁, e₂, e₃, e₄) (all_eq_self k a b c)

inference_test : {xs : List Thing} {k a b c : ℕ} {x : Thing} (d g t : ℕ) (k' : Key) → Shape xs k a b c x → all_eq 40 d g t k a b c ≡ is_thing x (inference k')
unfolding is_thing
inference_test {k = k} {a = a} {b = b} {c = c} {x = x} d g t k' s = no_40 k d g t a b c (s_plain s).0 ∙ go (thing? x (inference k'))
  where
    go : (e : Dec (x ≡ inference k')) → false ≡ yes? e
    go (yes q) = absurd (subst Plain q (s_plain s).1)
    go (no q) = refl

pub node_test : {k a b c n : ℕ} {x y : Thing} {xs : List Thing} {ws : List ℕ} (rest : List ℕ) → Shape xs k a b c x → Cells xs ws → Nth n y xs → same_node (ws ++ rest) k a b c n ≡ is_thing x y
unfolding same_node
node_test {k} {a} {b} {c} {n} {x} {y} {xs} {ws} rest s cs h = let r = read rest h cs in rw (cell_read n (ws ++ rest) r.words r.at) (at r.is (drop_one r.under))
  where
    at : {y : Thing} {ys : List Thing} {bs : List ℕ} → Block ys y bs → Extends ys xs → all_eq (get_or bs 0 0) (get_or bs 1 0) (get_or bs 2 0) (get_or bs 3 0) k a b c ≡ is_thing x y
    at (plain s' w) e = shape_test s (s_lift e s')
    at (remembered {d = d} {g = g} {t = t} {g' = g'} {t' = t'} hg ht) e = inference_test d g t (key d g' t') s

-- the same by its quote's parts
look_same : {xs : List Thing} {k a b c k' a' b' c' : ℕ} {s : Shown} (y : Thing) → Look xs k a b c s → Look xs k' a' b' c' (show y) → all_eq k' a' b' c' k a b c ≡ shows s y
unfolding shows
look_same {xs} {k} {a} {b} {c} {k'} {a'} {b'} {c'} {s = x} y s s' = decides (all_eq k' a' b' c' k a b c) (shown? x (show y)) (λ q. to (all_eq_true k' a' b' c' k a b c q)) from
  where
    to : Four k' a' b' c' k a b c → x ≡ show y
    to f = l_same s (rw (f.one, f.two, f.three, f.four) at s')

    from : x ≡ show y → all_eq k' a' b' c' k a b c ≡ true
    from q =
        let w = l_words s (rw (← q) at s') in
        let e₁ : k' ≡ k = cc in
        let e₂ : a' ≡ a = cc in
        let e₃ : b' ≡ b = cc in
        let e₄ : c' ≡ c = cc in
        rw (e₁, e₂, e₃, e₄) (all_eq_self k a b c)

memory_look : {xs : List Thing} {k a b c : ℕ} {s : Shown} (d g t : ℕ) → Look xs k a b c s → all_eq 40 d g t k a b c ≡ yes? (shown? s a_memory)
memory_look {k = k} {a = a} {b = b} {c = c} {s = s} d g t l = no_40 k d g t a b c (l_plain l).0 ∙ go (shown? s a_memory)
  where
    go : (e : Dec (s ≡ a_memory)) → false ≡ yes? e
    go (yes q) = absurd (subst Seen q (l_plain l).1)
    go (no q) = refl

-- how the parts of a cell show, read from the cells of the parts
module _ {xs : List Thing} {ws : List ℕ} (rest : List ℕ) (cs : Cells xs ws) where
  low_of : {n : ℕ} {x : Thing} → Plain x → Cell n x xs → Low (quote_of (ws ++ rest) n) (show x) xs
  low_of p c = let r = opens rest p (cell_nth c) cs in rw (quote_is r) r.lowest

  pub looks : {k a b c : ℕ} {y : Thing} → Shape xs k a b c y → Look xs k (look_1 (ws ++ rest) k a) (look_2 (ws ++ rest) k b) (look_3 (ws ++ rest) k c) (show y)
  unfolding look_1 look_2 look_3 hides_first shows_first shows_second shows_third
  -- written by tools/written.py: how a cell shows
  looks s_universe = l_universe
  looks s_var = l_var
  looks s_nat = l_nat
  looks s_zero = l_zero
  looks (s_pi h i) = l_pi (low_of tt h) (low_of tt i)
  looks (s_lam h i) = l_lam (low_of tt i)
  looks (s_app h i) = l_app (low_of tt h) (low_of tt i)
  looks (s_path h i j) = l_path (low_of tt h) (low_of tt i) (low_of tt j)
  looks (s_plam h i) = l_plam (low_of tt i)
  looks (s_papp h i) = l_papp (low_of tt h) (low_of tt i)
  looks (s_sigma h i) = l_sigma (low_of tt h) (low_of tt i)
  looks (s_pair h i j) = l_pair (low_of tt i) (low_of tt j)
  looks (s_fst h) = l_fst (low_of tt h)
  looks (s_snd h) = l_snd (low_of tt h)
  looks s_i0 = l_i0
  looks s_i1 = l_i1
  looks s_dim = l_dim
  looks (s_neg h) = l_neg (low_of tt h)
  looks (s_meet h i) = l_meet (low_of tt h) (low_of tt i)
  looks (s_join h i) = l_join (low_of tt h) (low_of tt i)
  looks s_nil = l_nil
  looks (s_cons h i) = l_cons (low_of tt h) (low_of tt i)
  -- end of how a cell shows

pub look_test : {k a b c n : ℕ} {s : Shown} {y : Thing} {xs : List Thing} {ws : List ℕ} (rest : List ℕ) → Look xs k a b c s → Cells xs ws → Nth n y xs → same_look (ws ++ rest) k a b c n ≡ shows s y
unfolding shows same_look
look_test {k} {a} {b} {c} {n} {s} {y} {xs} {ws} rest l cs h = let r = read rest h cs in rw (cell_read n (ws ++ rest) r.words r.at) (at r.is (drop_one r.under))
  where
    at : {y : Thing} {ys : List Thing} {bs : List ℕ} → Block ys y bs → Extends ys xs → all_eq (get_or bs 0 0) (look_1 (ws ++ rest) (get_or bs 0 0) (get_or bs 1 0)) (look_2 (ws ++ rest) (get_or bs 0 0) (get_or bs 2 0)) (look_3 (ws ++ rest) (get_or bs 0 0) (get_or bs 3 0)) k a b c ≡ shows s y
    at {y} (plain s' w) e = look_same y l (looks rest cs (s_lift e s'))
    at (remembered hg ht) e = memory_look _ _ _ l

-- a remembered inference shows its key
look_40 : (C : List ℕ) (d : ℕ) → look_1 C 40 d ≡ d
unfolding look_1 hides_first shows_first
look_40 C d = refl

look_41 : (C : List ℕ) (g : ℕ) → look_2 C 40 g ≡ g
unfolding look_2 shows_second
look_41 C g = refl

look_42 : (C : List ℕ) (t : ℕ) → look_3 C 40 t ≡ t
unfolding look_3 shows_third
look_42 C t = refl

-- a cell's hash stays as the store grows
pub hash_stays : {xs ys zs : List Thing} {x : Thing} {ws vs bs : List ℕ} (rest rest' : List ℕ) → Cells xs ws → Cells ys vs → Extends xs ys → Extends zs xs → Block zs x bs → look_hash (vs ++ rest') (get_or bs 0 0) (get_or bs 1 0) (get_or bs 2 0) (get_or bs 3 0) ≡ look_hash (ws ++ rest) (get_or bs 0 0) (get_or bs 1 0) (get_or bs 2 0) (get_or bs 3 0)
unfolding look_hash
hash_stays {ws = ws} {vs = vs} rest rest' cs ds e f (plain {k = k} {a = a} {b = b} {c = c} s w) =
    let p = l_words (looks rest' ds (s_lift (extends_trans f e) s)) (l_lift e (looks rest cs (s_lift f s))) in
    let e₁ : look_1 (vs ++ rest') k a ≡ look_1 (ws ++ rest) k a = cc in
    let e₂ : look_2 (vs ++ rest') k b ≡ look_2 (ws ++ rest) k b = cc in
    let e₃ : look_3 (vs ++ rest') k c ≡ look_3 (ws ++ rest) k c = cc in
    rw (e₁, e₂, e₃)
hash_stays {ws = ws} {vs = vs} rest rest' cs ds e f (remembered {d = d} {g = g} {t = t} hg ht) = rw (look_40 (vs ++ rest') d, look_40 (ws ++ rest) d, look_41 (vs ++ rest') g, look_41 (ws ++ rest) g, look_42 (vs ++ rest') t, look_42 (ws ++ rest) t)

-- the test of a row tells whether it has the judgment
spoken_test : {xs : List Thing} {k m a b c d e k' m' a' b' c' d' e' : ℕ} {i j : Judgment} → Spoken xs k m a b c d e j → Spoken xs k' m' a' b' c' d' e' i → ifb (all_eq k' a' b' c' k a b c) (ifb (eqb d' d) (eqb e' e) false) false ≡ yes? (judgment? j i)
spoken_test {xs} {k} {m} {a} {b} {c} {d} {e} {k'} {m'} {a'} {b'} {c'} {d'} {e'} {i} {j} s s' = decides _ (judgment? j i) to from
  where
    to : ifb (all_eq k' a' b' c' k a b c) (ifb (eqb d' d) (eqb e' e) false) false ≡ true → j ≡ i
    to q =
        let p = ifb_true (all_eq k' a' b' c' k a b c) _ q in
        let f = all_eq_true k' a' b' c' k a b c p.0 in
        let r = ifb_true (eqb d' d) (eqb e' e) p.1 in
        let e₁ = eqb_true d' d r.0 in
        let e₂ = eqb_true e' e r.1 in
        j_same s (rw (f.one, f.two, f.three, f.four, e₁, e₂) at s')

    from : j ≡ i → ifb (all_eq k' a' b' c' k a b c) (ifb (eqb d' d) (eqb e' e) false) false ≡ true
    from q =
        let w = j_words s (rw (← q) at s') in
        let e₁ : k' ≡ k = cc in
        let e₂ : a' ≡ a = cc in
        let e₃ : b' ≡ b = cc in
        let e₄ : c' ≡ c = cc in
        let e₅ : d' ≡ d = cc in
        let e₆ : e' ≡ e = cc in
        rw (e₁, e₂, e₃, e₄, e₅, e₆, all_eq_self k a b c, eqb_self d, eqb_self e)

pub row_test : {k m a b c d e n : ℕ} {j : Judgment} {r : Row} {xs : List Thing} {rs : List Row} {ws : List ℕ} (rest : List ℕ) → Spoken xs k m a b c d e j → Lines xs rs ws → Nth n r rs → same_row (ws ++ rest) k a b c d e n ≡ yes? (judgment? j r.judgment)
unfolding same_row
row_test {k} {m} {a} {b} {c} {d} {e} {n} {j} {r} {xs} {rs} {ws} rest s ls h = let o = read rest h ls in rw (o.at 13 (lit< tt), o.at 14 (lit< tt), o.at 15 (lit< tt), o.at 16 (lit< tt), o.at 17 (lit< tt), o.at 19 (lit< tt)) (at o.is)
  where
    at : {r : Row} {rs : List Row} {bs : List ℕ} → Line xs rs r bs → ifb (all_eq (get_or bs 19 0) (get_or bs 13 0) (get_or bs 14 0) (get_or bs 15 0) k a b c) (ifb (eqb (get_or bs 16 0) d) (eqb (get_or bs 17 0) e) false) false ≡ yes? (judgment? j r.judgment)
    at (line s') = spoken_test s s'

pub rows_found : (j : Judgment) (t : ℕ → Bool) (rs : List Row) → ((n : ℕ) (r : Row) → Nth n r rs → t n ≡ yes? (judgment? j r.judgment)) → last_of t (length rs) ≡ found_of (row_of j rs)
unfolding last_of row_of
rows_found j t [] h = refl
rows_found j t (r ∷ rs) h = rw (rows_found j t rs (λ n y k. h n y (there k)), h (length rs) r (here refl)) (go (judgment? j r.judgment))
  where
    go : (d : Dec (j ≡ r.judgment)) → ifb (yes? d) (Some (length rs)) (found_of (row_of j rs)) ≡ found_of (elim d as (λ _. Option ℕ) [ yes e ↦ some (length rs) | no ne ↦ row_of j rs ])
    go (yes e) = refl
    go (no e) = refl

-- a thing has a cell or Nothing
pub among_found : (x : Thing) (xs : List Thing) (n : ℕ) → first (is_thing x) xs ≡ Some n → among x xs ≡ true
unfolding first is_thing among
among_found x [] n e = let z : ◌≡◌ {A = ℕ} 0 1 = cc in absurd (omega arith)
among_found x (y ∷ ys) n e = go (first (is_thing x) ys) refl (thing? x y) (among_found x ys) e
  where
    go : (o : Found) → first (is_thing x) ys ≡ o → (d : Dec (x ≡ y)) → ((n : ℕ) → first (is_thing x) ys ≡ Some n → among x ys ≡ true) → or_else o (ifb (yes? d) (Some (length ys)) None) ≡ Some n → elim d as (λ _. Bool) [ yes e ↦ true | no ne ↦ among x ys ] ≡ true
    go o f (yes d) ih g = refl
    go (Some m) f (no d) ih g = ih m f
    go None f (no d) ih g = let z : ◌≡◌ {A = ℕ} 0 1 = cc in absurd (omega arith)

pub among_none : (x : Thing) (xs : List Thing) → first (is_thing x) xs ≡ None → among x xs ≡ false
unfolding first is_thing among
among_none x [] e = refl
among_none x (y ∷ ys) e = go (first (is_thing x) ys) refl (thing? x y) (among_none x ys) e
  where
    go : (o : Found) → first (is_thing x) ys ≡ o → (d : Dec (x ≡ y)) → (first (is_thing x) ys ≡ None → among x ys ≡ false) → ◌≡◌ {A = Found} (or_else o (ifb (yes? d) (Some (length ys)) None)) None → elim d as (λ _. Bool) [ yes e ↦ true | no ne ↦ among x ys ] ≡ false
    go (Some m) f d ih g = let z : ◌≡◌ {A = ℕ} 0 1 = cc in absurd (omega arith)
    go None f (yes d) ih g = let z : ◌≡◌ {A = ℕ} 0 1 = cc in absurd (omega arith)
    go None f (no d) ih g = ih f

-- the cell that comes
pub comes : (x : Thing) (xs : List Thing) → first (is_thing x) xs ≡ None → Cell (length xs) x (x ∷ xs)
unfolding first is_thing
comes x xs e = record { found = rw e (at (thing? x x)) }
  where
    at : (d : Dec (x ≡ x)) → ◌≡◌ {A = Found} (ifb (yes? d) (Some (length xs)) None) (Some (length xs))
    at (yes h) = refl
    at (no h) = absurd (h refl)

-- the lowest with its quote
pub lowest_comes : (x : Thing) (xs : List Thing) → Low (on_found (first (shows (show x)) xs) (λ i. i) (length xs)) (show x) (x ∷ xs)
unfolding first shows
lowest_comes x xs = record { found = go (first (shows (show x)) xs) (shown? (show x) (show x)) }
  where
    go : (o : Found) (d : Dec (show x ≡ show x)) → ◌≡◌ {A = Found} (or_else o (ifb (yes? d) (Some (length xs)) None)) (Some (on_found o (λ i. i) (length xs)))
    go (Some n) d = refl
    go None (yes h) = refl
    go None (no h) = absurd (h refl)

-- all the parts of what has a cell have cells
module _ {xs : List Thing} {ws : List ℕ} (cs : Cells xs ws) where
  parts_known : {x : Thing} → Plain x → Held x xs → Known xs (parts x)
  parts_known p h = shape_known (opens [] p (cell_nth h.cell) cs).shape

  one : {x : Thing} → Held x xs → Known xs (x ∷ [])
  one h = known h none_left

  pub interval_known : (r : Interval) → Held (interval r) xs → Known xs (of_interval r)
  -- written by tools/written.py: parts of an interval
  interval_known I0 h = one h
  interval_known I1 h = one h
  interval_known (Dim n) h = one h
  interval_known (Neg a) h = let p = parts_known tt h in known_append (interval_known a (known_head p)) (one h)
  interval_known (Meet a b) h = let p = parts_known tt h in known_append (known_append (interval_known a (known_head p)) (interval_known b (known_head (known_tail p)))) (one h)
  interval_known (Join a b) h = let p = parts_known tt h in known_append (known_append (interval_known a (known_head p)) (interval_known b (known_head (known_tail p)))) (one h)

  -- end of parts of an interval

  pub term_known : (t : Term) → Held (term t) xs → Known xs (of_term t)
  -- written by tools/written.py: parts of a term
  term_known (Universe n) h = one h
  term_known (Var n) h = one h
  term_known Nat h = one h
  term_known Zero h = one h
  term_known (Pi a b) h = let p = parts_known tt h in known_append (known_append (term_known a (known_head p)) (term_known b (known_head (known_tail p)))) (one h)
  term_known (Lam a b) h = let p = parts_known tt h in known_append (known_append (term_known a (known_head p)) (term_known b (known_head (known_tail p)))) (one h)
  term_known (App a b) h = let p = parts_known tt h in known_append (known_append (term_known a (known_head p)) (term_known b (known_head (known_tail p)))) (one h)
  term_known (Path a b c) h = let p = parts_known tt h in known_append (known_append (known_append (term_known a (known_head p)) (term_known b (known_head (known_tail p)))) (term_known c (known_head (known_tail (known_tail p))))) (one h)
  term_known (PathLam a b) h = let p = parts_known tt h in known_append (known_append (term_known a (known_head p)) (term_known b (known_head (known_tail p)))) (one h)
  term_known (PathApp a b) h = let p = parts_known tt h in known_append (known_append (term_known a (known_head p)) (interval_known b (known_head (known_tail p)))) (one h)
  term_known (Sigma a b) h = let p = parts_known tt h in known_append (known_append (term_known a (known_head p)) (term_known b (known_head (known_tail p)))) (one h)
  term_known (Pair a b c) h = let p = parts_known tt h in known_append (known_append (known_append (term_known a (known_head p)) (term_known b (known_head (known_tail p)))) (term_known c (known_head (known_tail (known_tail p))))) (one h)
  term_known (Fst a) h = let p = parts_known tt h in known_append (term_known a (known_head p)) (one h)
  term_known (Snd a) h = let p = parts_known tt h in known_append (term_known a (known_head p)) (one h)

  -- end of parts of a term

  pub context_known : (g : Context) → Held (context g) xs → Known xs (of_context g)
  context_known Nil h = one h
  context_known (Cons a g) h = let p = parts_known tt h in known_append (known_append (context_known g (known_head (known_tail p))) (term_known a (known_head p))) (one h)

-- remembered inferences
not_40 : (k a b c d g t : ℕ) → eqb k 40 ≡ false → all_eq k a b c 40 d g t ≡ false
unfolding all_eq
not_40 k a b c d g t e = rw e

plain_not : (k : Key) (x : Thing) → Plain x → false ≡ is_thing (inference k) x
unfolding is_thing
plain_not k x p = go (thing? (inference k) x)
  where
    go : (d : Dec (inference k ≡ x)) → false ≡ yes? d
    go (yes q) = absurd (subst Plain (sym q) p)
    go (no q) = refl

key_test : {xs : List Thing} {g t g' t' : ℕ} {G G' : Context} {t₁ t₂ : Term} (d d' : ℕ) → Cell g (context G) xs → Cell t (term t₁) xs → Cell g' (context G') xs → Cell t' (term t₂) xs → all_eq 40 d' g' t' 40 d g t ≡ is_thing (inference (key d G t₁)) (inference (key d' G' t₂))
unfolding is_thing
key_test {xs} {g} {t} {g'} {t'} {G} {G'} {t₁} {t₂} d d' h k h' k' = decides _ (thing? (inference (key d G t₁)) (inference (key d' G' t₂))) (λ q. to (all_eq_true 40 d' g' t' 40 d g t q)) from
  where
    to : Four 40 d' g' t' 40 d g t → inference (key d G t₁) ≡ inference (key d' G' t₂)
    to f =
        let e₁ = f.two in
        let e₂ = cell_same h (rw f.three at h') in
        let e₃ = cell_same k (rw f.four at k') in
        cc

    from : inference (key d G t₁) ≡ inference (key d' G' t₂) → all_eq 40 d' g' t' 40 d g t ≡ true
    from q =
        let e₁ : d' ≡ d = cc in
        let e₂ : G' ≡ G = cc in
        let e₃ : t₂ ≡ t₁ = cc in
        let e₄ = cell_number (rw e₂ at h') h in
        let e₅ = cell_number (rw e₃ at k') k in
        rw (e₁, e₄, e₅) (all_eq_self 40 d g t)

pub memory_test : {g t n : ℕ} {G : Context} {t₁ : Term} {y : Thing} {xs : List Thing} {ws : List ℕ} (rest : List ℕ) (d : ℕ) → Cell g (context G) xs → Cell t (term t₁) xs → Cells xs ws → Nth n y xs → same_node (ws ++ rest) 40 d g t n ≡ is_thing (inference (key d G t₁)) y
unfolding same_node
memory_test {g} {t} {n} {G} {t₁} {y} {xs} {ws} rest d hg ht cs h = let r = read rest h cs in rw (cell_read n (ws ++ rest) r.words r.at) (at r.is (drop_one r.under))
  where
    at : {y : Thing} {ys : List Thing} {bs : List ℕ} → Block ys y bs → Extends ys xs → all_eq (get_or bs 0 0) (get_or bs 1 0) (get_or bs 2 0) (get_or bs 3 0) 40 d g t ≡ is_thing (inference (key d G t₁)) y
    at {y} (plain {k = k} {a = a} {b = b} {c = c} s w) e = not_40 k a b c d g t (s_plain s).2 ∙ plain_not (key d G t₁) y (s_plain s).1
    at (remembered {d = d'} hg' ht') e = key_test d d' hg ht (cell_lift e hg') (cell_lift e ht')

-- what a search for a remembered inference finds, and the words there
pub data Kept (xs : List Thing) (ws : List ℕ) : Found → Option (Term × ℕ) → Type 0 where
  no_memory : Kept xs ws None none
  a_memory_at : {n : ℕ} {ty : Term} {row : ℕ} → Cell (get_or ws (n * 8 + 4) 0) (term ty) xs → get_or ws (n * 8 + 5) 0 ≡ row → Kept xs ws (Some n) (some (ty, row))

-- every key: it has a cell where it is remembered, and there its type and row
abbrev pub Remembers : List Thing → List Memory → List ℕ → Type 0
Remembers xs ms ws = (k : Key) → Kept xs ws (first (is_thing (inference k)) xs) (recall k ms)

-- the words may move where no cell that was found lies
pub kept_moves : {xs ys : List Thing} {ws ws' : List ℕ} {o : Found} {p : Option (Term × ℕ)} → Extends xs ys → ((n : ℕ) → o ≡ Some n → (get_or ws' (n * 8 + 4) 0 ≡ get_or ws (n * 8 + 4) 0) × (get_or ws' (n * 8 + 5) 0 ≡ get_or ws (n * 8 + 5) 0)) → Kept xs ws o p → Kept ys ws' o p
kept_moves e f no_memory = no_memory
kept_moves {ws = ws} {ws' = ws'} e f (a_memory_at {n = n} {ty = ty} c q) = let r = f n refl in a_memory_at {n = n} {ty = ty} (rw r.0 (cell_lift e c)) (r.1 ∙ q)

-- a plain cell more
pub first_plain : (k : Key) (x : Thing) (xs : List Thing) → Plain x → first (is_thing (inference k)) (x ∷ xs) ≡ first (is_thing (inference k)) xs
unfolding first
first_plain k x xs p = rw (← plain_not k x p) (go (first (is_thing (inference k)) xs))
  where
    go : (o : Found) → or_else o None ≡ o
    go None = refl
    go (Some n) = refl

-- another key's cell more
pub first_other : (k k' : Key) (xs : List Thing) → (k ≡ k' → ⊥) → first (is_thing (inference k)) (inference k' ∷ xs) ≡ first (is_thing (inference k)) xs
unfolding first is_thing
first_other k k' xs ne = go (first (is_thing (inference k)) xs) (thing? (inference k) (inference k'))
  where
    go : (o : Found) (d : Dec (inference k ≡ inference k')) → or_else o (ifb (yes? d) (Some (length xs)) None) ≡ o
    go (Some n) d = refl
    go None (no q) = refl
    go None (yes q) = let e : k ≡ k' = cc in absurd (ne e)

pub nth_fits : {n : ℕ} (k : Key) (xs : List Thing) → first (is_thing (inference k)) xs ≡ Some n → n < length xs
nth_fits k xs e = nth_below (cell_nth (record { found = e }))

-- the type and the row of a remembered inference are written over
pub record Replaced (xs : List Thing) (ws : List ℕ) (n type row : ℕ) (rest : List ℕ) : Type 0 where
  pub used : List ℕ
  pub are : Cells xs used
  pub words : sets (ws ++ rest) (n * 8 + 4) (type ∷ row ∷ []) ≡ used ++ rest

pub replaced : {n : ℕ} {k : Key} {xs : List Thing} {ws : List ℕ} (rest : List ℕ) (type row : ℕ) → Nth n (inference k) xs → Cells xs ws → Replaced xs ws n type row rest
replaced {n} rest type row (here e) (block {xs = xs} {ws = ws} {bs = bs} b z h) = rw e (at b)
  where
    at : {k : Key} {bs : List ℕ} → Block xs (inference k) bs → Replaced (inference k ∷ xs) (ws ++ bs) (length xs) type row rest
    at (plain s w) = absurd (s_plain s).1
    at (remembered {d = d} {g = g} {t = t} {w = w} {row = r} {m = m} {n = n} hg ht) = record {
      used = ws ++ (40 ∷ d ∷ g ∷ t ∷ type ∷ row ∷ m ∷ n ∷ []);
      are = block (remembered hg ht) refl h;
      words =
          ap (λ (l : List ℕ). sets l (length xs * 8 + 4) (type ∷ row ∷ [])) (append_assoc ws (40 ∷ d ∷ g ∷ t ∷ w ∷ r ∷ m ∷ n ∷ []) rest ∙ sym (append_assoc ws (40 ∷ d ∷ g ∷ t ∷ []) (w ∷ r ∷ m ∷ n ∷ rest)))
          ∙ written (ws ++ (40 ∷ d ∷ g ∷ t ∷ [])) (type ∷ row ∷ []) (w ∷ r ∷ m ∷ n ∷ rest) (length xs * 8 + 4) (rw (length-append, blocks_length h)) (omega arith)
          ∙ rw (append_assoc, append_assoc, append_assoc);
    }
replaced rest type row (there k) (block {xs = xs} {ws = ws} {bs = bs} b z h) =
    let r = replaced (bs ++ rest) type row k h in
    record { used = r.used ++ bs; are = block b z r.are; words = rw (append_assoc, append_assoc) r.words }
