-- Where the first of two cells has a quote, the comparison of the cells says whether the second has the same; so for intervals and
-- contexts. Assumes nothing.
use Rattle.std.specs.Prelude.{ℕ, ◌<◌, ◌≡◌, List, Bool, ltb, eqb}
use Rattle.std.proofs.Math.Path.{refl}
use Rattle.std.proofs.Common.{sym, ap, ◌∙◌, arith, eq-eqb, ne_eqb, ltb-true}
use Rattle.std.proofs.Math.Option.{Option, none, some}
use Rattle.std.proofs.Math.Bool.{true, false}
use Rattle.std.proofs.Math.Decide.{ℕ_discrete}
use Rattle.std.proofs.Math.ListN.{get_or}
use Rattle.ast.specs.Words.{ifb}
use Rattle.link.specs.Store.{eqb_true}
use Rattle.rules.specs.Kinds.{parts_of, part_of}
use Rattle.walk.specs.Bytes.{kind_byte, ikind_byte, kind_is, ikind_is, Table, end, entry, blanks, found}
use Rattle.walk.specs.Reader.{Kind, k_u, k_v, k_nat, k_zero, k_pi, k_lam, k_app, k_path, k_plam, k_papp, k_sigma, k_pair, k_fst, k_snd, IKind, k_0, k_1, k_dim, k_neg, k_meet, k_join, kinds, ikinds}
use Rattle.walk.specs.Syntax.{Interval, I0, I1, Dim, Neg, Meet, Join, Quote, u, v, nat, zero, pi, lam, app, path, plam, papp, sigma, pair, fst, snd, Quotes, nil, cons}
use Rattle.link.specs.Table.{◌>>=◌, kind_word, part, lower, interval_by, quote_by, CKind, k_nil, k_cons, ckinds, context_by, interval_at, quote_at, context_at}
use Rattle.search.specs.Alike.{both_lower, same_part, all_parts, same_node, same_within}

-- b says, where o is something, whether o' is the same
pub record Like {A : Type 0} (o o' : Option A) (b : Bool) : Type 0 where
  pub same : (x : A) → o ≡ some x → b ≡ true → o' ≡ some x
  pub tells : (x : A) → o ≡ some x → o' ≡ some x → b ≡ true

pub none_some : {A : Type 0} {x : A} → none ≡ some x → ⊥
none_some e = let z : ◌≡◌ {A = ℕ} 0 1 = cc in omega arith

false_true : false ≡ true → ⊥
false_true e = let z : ◌≡◌ {A = ℕ} 0 1 = cc in omega arith

module _ {A : Type 0} where
  like_itself : (o : Option A) → Like o o true
  like_itself o = record { same = λ x e t. e; tells = λ x e f. refl }

  pub like_none : (o : Option A) (b : Bool) → Like none o b
  like_none o b = record { same = λ x e t. absurd (none_some e); tells = λ x e f. absurd (none_some e) }

  pub unlike : (o o' : Option A) → ((x : A) → o ≡ some x → o' ≡ some x → ⊥) → Like o o' false
  unlike o o' h = record { same = λ x e t. absurd (false_true t); tells = λ x e f. absurd (h x e f) }

  -- a part with a lower number
  lower_like : (at : ℕ → Option A) (same : ℕ → ℕ → Bool) (i j : ℕ) → ((x y : ℕ) → x < i → y < j → Like (at x) (at y) (same x y)) → (x y : ℕ) → Like (lower i at x) (lower j at y) (both_lower same i j x y)
  lower_like at same i j h x y = go (ltb x i) (ltb y j) refl refl
    where
      go : (b c : Bool) → ltb x i ≡ b → ltb y j ≡ c → Like {A = A} (elim b as (λ _. Option A) [ true ↦ at x | false ↦ none ]) (elim c as (λ _. Option A) [ true ↦ at y | false ↦ none ]) (ifb b (ifb c (same x y) false) false)
      go false c e f = like_none _ false
      go true false e f = unlike (at x) none (λ z p q. none_some q)
      go true true e f = h x y (ltb-true x i e) (ltb-true y j f)

-- what follows parts

module _ {A B : Type 0} where
  pub record Bound (o : Option A) (f : A → Option B) (p : B) : Type 0 where
    pub one : A
    pub is : o ≡ some one
    pub next : f one ≡ some p

  pub bound : (o : Option A) (f : A → Option B) {p : B} → (o >>= f) ≡ some p → Bound o f p
  unfolding ◌>>=◌
  bound (some x) f e = record { one = x; is = refl; next = e }
  bound none f e = absurd (none_some e)

  like_then : {o o' : Option A} {b c : Bool} (f f' : A → Option B) → Like o o' b → ((x : A) → Like (f x) (f' x) c) → ((x y : A) (p : B) → f x ≡ some p → f' y ≡ some p → x ≡ y) → Like (o >>= f) (o' >>= f') (ifb b c false)
  unfolding ◌>>=◌
  like_then {o} {o'} {b} {c} f f' l k inj = record { same = λ p e t. same p (bound o f e) b refl t; tells = λ p e g. tells p (bound o f e) (bound o' f' g) }
    where
      same : (p : B) → Bound o f p → (d : Bool) → b ≡ d → ifb d c false ≡ true → (o' >>= f') ≡ some p
      same p x true q t = rw (l.same x.one x.is q) ((k x.one).same p x.next t)
      same p x false q t = absurd (false_true t)

      tells : (p : B) → Bound o f p → Bound o' f' p → ifb b c false ≡ true
      tells p x y =
          let e = inj x.one y.one p x.next y.next in
          let s = l.tells x.one x.is (y.is ∙ ap some (sym e)) in
          let t = (k x.one).tells p x.next (ap f' e ∙ y.next) in
          rw (s, t)

pub some_is : {A : Type 0} {a b : A} → some a ≡ some b → a ≡ b
some_is e = cc

module _ {P : Type 0} where
  like_number : (con : ℕ → P) → ((x y : ℕ) → con x ≡ con y → x ≡ y) → (a b : ℕ) → Like (some (con a)) (some (con b)) (ifb (eqb a b) true false)
  like_number con inj a b = record { same = λ x e t. same x e (eqb a b) refl t; tells = λ x e f. rw (eq-eqb a b (inj a b (some_is (e ∙ sym f)))) }
    where
      same : (x : P) → some (con a) ≡ some x → (d : Bool) → eqb a b ≡ d → ifb d true false ≡ true → some (con b) ≡ some x
      same x e true q t = rw (← eqb_true a b q) e
      same x e false q t = absurd (false_true t)

  like_1 : {A : Type 0} {o o' : Option A} {b : Bool} (con : A → P) → ((x y : A) → con x ≡ con y → x ≡ y) → Like o o' b → Like (o >>= λ x. some (con x)) (o' >>= λ x. some (con x)) (ifb b true false)
  like_1 con inj l = like_then _ _ l (λ x. like_itself (some (con x))) (λ x y p e f. inj x y (some_is (e ∙ sym f)))

  -- the last of three parts
  like_last : {A : Type 0} {o o' : Option A} {b : Bool} (con : A → P) → ((x y : A) → con x ≡ con y → x ≡ y) → Like o o' b → Like (o >>= λ x. some (con x)) (o' >>= λ x. some (con x)) b
  like_last {b = b} con inj l = rw (← whole b) (like_1 con inj l)
    where
      whole : (b : Bool) → ifb b true false ≡ b
      whole true = refl
      whole false = refl

  like_2 : {A B : Type 0} {o o' : Option A} {q q' : Option B} {b c : Bool} (con : A → B → P) → ((x x' : A) (y y' : B) → con x y ≡ con x' y' → (x ≡ x') × (y ≡ y')) → Like o o' b → Like q q' c → Like (o >>= λ x. q >>= λ y. some (con x y)) (o' >>= λ x. q' >>= λ y. some (con x y)) (ifb b (ifb c true false) false)
  like_2 {q = q} {q' = q'} con inj l k = like_then _ _ l (λ x. like_1 (con x) (λ y y' e. (inj x x y y' e).1) k) (λ x x' p e f. let y = bound q _ e in let y' = bound q' _ f in (inj x x' y.one y'.one (some_is (y.next ∙ sym y'.next))).0)

  like_3 : {A B D : Type 0} {o o' : Option A} {q q' : Option B} {r r' : Option D} {b c d : Bool} (con : A → B → D → P) → ((x x' : A) (y y' : B) (z z' : D) → con x y z ≡ con x' y' z' → (x ≡ x') × ((y ≡ y') × (z ≡ z'))) → Like o o' b → Like q q' c → Like r r' d → Like (o >>= λ x. q >>= λ y. r >>= λ z. some (con x y z)) (o' >>= λ x. q' >>= λ y. r' >>= λ z. some (con x y z)) (ifb b (ifb c d false) false)
  like_3 {q = q} {q' = q'} {r = r} {r' = r'} con inj l k m =
      like_then _ _ l
      (λ x. like_then _ _ k (λ y. like_last (con x y) (λ z z' e. (inj x x y y z z' e).1.1) m) (λ y y' p e f. let z = bound r _ e in let z' = bound r' _ f in (inj x x y y' z.one z'.one (some_is (z.next ∙ sym z'.next))).1.0))
      (λ x x' p e f.
      let y = bound q _ e in
      let y' = bound q' _ f in
      let z = bound r _ y.next in
      let z' = bound r' _ y'.next in
      (inj x x' y.one y'.one z.one z'.one (some_is (z.next ∙ sym z'.next))).0)

abbrev ckind_byte : CKind → ℕ
ckind_byte k_nil = 32
ckind_byte k_cons = 33

ckind_is : (b : ℕ) (k : CKind) → get_or ckinds b none ≡ some k → b ≡ ckind_byte k
ckind_is b k e = let f = found {byte = ckind_byte} table b k e in omega arith
  where
    table : Table ckind_byte 0 ckinds
    table = blanks 32 0 (entry refl (entry refl end))

-- what is read tells its cell's kind

then_byte : {A B : Type 0} {m n : ℕ} {p : B} (o : Option A) (f : A → Option B) → ((x : A) → f x ≡ some p → m ≡ n) → (o >>= f) ≡ some p → m ≡ n
then_byte o f h e = let b = bound o f e in h b.one b.next

interval_byte : Interval → ℕ
-- written by tools/written.py: byte of an interval
interval_byte I0 = 16
interval_byte I1 = 17
interval_byte (Dim x) = 18
interval_byte (Neg x) = 19
interval_byte (Meet x y) = 20
interval_byte (Join x y) = 21

-- end of byte of an interval

interval_kind : (at : ℕ → Option Interval) (k : IKind) (a b : ℕ) {r : Interval} → interval_by at k a b ≡ some r → ikind_byte k ≡ interval_byte r
unfolding interval_by interval_byte
-- written by tools/written.py: kind of an interval
interval_kind at k_0 a b e = ap interval_byte (some_is e)
interval_kind at k_1 a b e = ap interval_byte (some_is e)
interval_kind at k_dim a b e = ap interval_byte (some_is e)
interval_kind at k_neg a b e = then_byte _ _ (λ x e. ap interval_byte (some_is e)) e
interval_kind at k_meet a b e = then_byte _ _ (λ x e. then_byte _ _ (λ y e. ap interval_byte (some_is e)) e) e
interval_kind at k_join a b e = then_byte _ _ (λ x e. then_byte _ _ (λ y e. ap interval_byte (some_is e)) e) e

-- end of kind of an interval

quote_byte : Quote → ℕ
-- written by tools/written.py: byte of a quote
quote_byte (u x) = 1
quote_byte (v x) = 2
quote_byte nat = 3
quote_byte zero = 4
quote_byte (pi x y) = 5
quote_byte (lam x) = 6
quote_byte (app x y) = 7
quote_byte (path x y z) = 8
quote_byte (plam x) = 9
quote_byte (papp x y) = 10
quote_byte (sigma x y) = 11
quote_byte (pair x y) = 12
quote_byte (fst x) = 13
quote_byte (snd x) = 14

-- end of byte of a quote

quote_kind : (at : ℕ → Option Quote) (iat : ℕ → Option Interval) (k : Kind) (a b c : ℕ) {t : Quote} → quote_by at iat k a b c ≡ some t → kind_byte k ≡ quote_byte t
unfolding quote_by quote_byte
-- written by tools/written.py: kind of a quote
quote_kind at iat k_u a b c e = ap quote_byte (some_is e)
quote_kind at iat k_v a b c e = ap quote_byte (some_is e)
quote_kind at iat k_nat a b c e = ap quote_byte (some_is e)
quote_kind at iat k_zero a b c e = ap quote_byte (some_is e)
quote_kind at iat k_pi a b c e = then_byte _ _ (λ x e. then_byte _ _ (λ y e. ap quote_byte (some_is e)) e) e
quote_kind at iat k_lam a b c e = then_byte _ _ (λ x e. ap quote_byte (some_is e)) e
quote_kind at iat k_app a b c e = then_byte _ _ (λ x e. then_byte _ _ (λ y e. ap quote_byte (some_is e)) e) e
quote_kind at iat k_path a b c e = then_byte _ _ (λ x e. then_byte _ _ (λ y e. then_byte _ _ (λ z e. ap quote_byte (some_is e)) e) e) e
quote_kind at iat k_plam a b c e = then_byte _ _ (λ x e. ap quote_byte (some_is e)) e
quote_kind at iat k_papp a b c e = then_byte _ _ (λ x e. then_byte _ _ (λ y e. ap quote_byte (some_is e)) e) e
quote_kind at iat k_sigma a b c e = then_byte _ _ (λ x e. then_byte _ _ (λ y e. ap quote_byte (some_is e)) e) e
quote_kind at iat k_pair a b c e = then_byte _ _ (λ x e. then_byte _ _ (λ y e. ap quote_byte (some_is e)) e) e
quote_kind at iat k_fst a b c e = then_byte _ _ (λ x e. ap quote_byte (some_is e)) e
quote_kind at iat k_snd a b c e = then_byte _ _ (λ x e. ap quote_byte (some_is e)) e

-- end of kind of a quote

context_byte : Quotes → ℕ
context_byte nil = 32
context_byte (cons x y) = 33

context_kind : (at : ℕ → Option Quotes) (qat : ℕ → Option Quote) (k : CKind) (a b : ℕ) {g : Quotes} → context_by at qat k a b ≡ some g → ckind_byte k ≡ context_byte g
unfolding context_by context_byte
context_kind at qat k_nil a b e = ap context_byte (some_is e)
context_kind at qat k_cons a b e = then_byte _ _ (λ x e. then_byte _ _ (λ y e. ap context_byte (some_is e)) e) e

module _ (f : ℕ) (C : List ℕ) (i j : ℕ) where
  abbrev PartsLike : {A : Type 0} → (ℕ → Option A) → Type 0
  PartsLike at = (x y : ℕ) → Like (lower i at x) (lower j at y) (both_lower (same_within f C) i j x y)

  interval_node : PartsLike (interval_at f C) → (k : IKind) → Like (interval_by (lower i (interval_at f C)) k (part 1 C i) (part 2 C i)) (interval_by (lower j (interval_at f C)) k (part 1 C j) (part 2 C j)) (all_parts (same_within f C) C (ikind_byte k) i j)
  unfolding interval_by same_part part_of parts_of
  -- written by tools/written.py: an interval and another
  interval_node at k_0 = like_itself (some I0)
  interval_node at k_1 = like_itself (some I1)
  interval_node at k_dim = like_number Dim (λ x y e. cc) _ _
  interval_node at k_neg = like_1 Neg (λ x x' e. cc) (at _ _)
  interval_node at k_meet = like_2 Meet (λ x x' y y' e. (cc, cc)) (at _ _) (at _ _)
  interval_node at k_join = like_2 Join (λ x x' y y' e. (cc, cc)) (at _ _) (at _ _)

  -- end of an interval and another

  quote_node : PartsLike (quote_at f C) → PartsLike (interval_at f C) → (k : Kind) → Like (quote_by (lower i (quote_at f C)) (lower i (interval_at f C)) k (part 1 C i) (part 2 C i) (part 3 C i)) (quote_by (lower j (quote_at f C)) (lower j (interval_at f C)) k (part 1 C j) (part 2 C j) (part 3 C j)) (all_parts (same_within f C) C (kind_byte k) i j)
  unfolding quote_by same_part part_of parts_of
  -- written by tools/written.py: a quote and another
  quote_node at iat k_u = like_number u (λ x y e. cc) _ _
  quote_node at iat k_v = like_number v (λ x y e. cc) _ _
  quote_node at iat k_nat = like_itself (some nat)
  quote_node at iat k_zero = like_itself (some zero)
  quote_node at iat k_pi = like_2 pi (λ x x' y y' e. (cc, cc)) (at _ _) (at _ _)
  quote_node at iat k_lam = like_1 lam (λ x x' e. cc) (at _ _)
  quote_node at iat k_app = like_2 app (λ x x' y y' e. (cc, cc)) (at _ _) (at _ _)
  quote_node at iat k_path = like_3 path (λ x x' y y' z z' e. (cc, (cc, cc))) (at _ _) (at _ _) (at _ _)
  quote_node at iat k_plam = like_1 plam (λ x x' e. cc) (at _ _)
  quote_node at iat k_papp = like_2 papp (λ x x' y y' e. (cc, cc)) (at _ _) (iat _ _)
  quote_node at iat k_sigma = like_2 sigma (λ x x' y y' e. (cc, cc)) (at _ _) (at _ _)
  quote_node at iat k_pair = like_2 pair (λ x x' y y' e. (cc, cc)) (at _ _) (at _ _)
  quote_node at iat k_fst = like_1 fst (λ x x' e. cc) (at _ _)
  quote_node at iat k_snd = like_1 snd (λ x x' e. cc) (at _ _)

  -- end of a quote and another

  context_node : PartsLike (context_at f C) → PartsLike (quote_at f C) → (k : CKind) → Like (context_by (lower i (context_at f C)) (lower i (quote_at f C)) k (part 1 C i) (part 2 C i)) (context_by (lower j (context_at f C)) (lower j (quote_at f C)) k (part 1 C j) (part 2 C j)) (all_parts (same_within f C) C (ckind_byte k) i j)
  unfolding context_by same_part part_of parts_of
  context_node at qat k_nil = like_itself (some nil)
  context_node at qat k_cons = like_2 cons (λ x x' y y' e. (cc, cc)) (qat _ _) (at _ _)

-- Two cells, over what is known of a node: a reading by a table of kinds, and what it tells of a cell's kind.
module _ {A K : Type 0} (byte : K → ℕ) (table : List (Option K)) (is : (w : ℕ) (k : K) → get_or table w none ≡ some k → w ≡ byte k) (C : List ℕ) (i j : ℕ) (same : ℕ → ℕ → Bool) (left right : K → Option A) where
  abbrev from : ℕ → (K → Option A) → Option A
  from w by = get_or table w none >>= by

  by_kind : ((k : K) → Like (left k) (right k) (all_parts same C (byte k) i j)) → (w : ℕ) → Like (from w left) (from w right) (all_parts same C w i j)
  unfolding ◌>>=◌
  by_kind h w = go (get_or table w none) refl
    where
      go : (o : Option K) → get_or table w none ≡ o → Like (o >>= left) (o >>= right) (all_parts same C w i j)
      go none e = like_none _ _
      go (some k) e = rw (is w k e) (h k)

  -- of one number, of one kind, or of two
  two_cells : (tag : A → ℕ) → ((k : K) (p : A) → left k ≡ some p → byte k ≡ tag p) → ((k : K) (p : A) → right k ≡ some p → byte k ≡ tag p) → ((k : K) → Like (left k) (right k) (all_parts same C (byte k) i j)) → (i ≡ j → (w : ℕ) → from w left ≡ from w right) → Like (from (kind_word C i) left) (from (kind_word C j) right) (same_node same C i j)
  unfolding same_node
  two_cells tag l r h equal = go (ℕ_discrete i j) (ℕ_discrete (kind_word C j) (kind_word C i))
    where
      kind_told : (w : ℕ) (by : K → Option A) → ((k : K) (p : A) → by k ≡ some p → byte k ≡ tag p) → (p : A) → from w by ≡ some p → w ≡ tag p
      kind_told w by t p e = let b = bound (get_or table w none) by e in is w b.one b.is ∙ t b.one p b.next

      go : Dec (i ≡ j) → Dec (kind_word C j ≡ kind_word C i) → Like (from (kind_word C i) left) (from (kind_word C j) right) (ifb (eqb i j) true (ifb (eqb (kind_word C j) (kind_word C i)) (all_parts same C (kind_word C i) i j) false))
      go (yes e) d = rw (eq-eqb i j e, ← e, equal e (kind_word C i)) (like_itself _)
      go (no e) (yes q) = rw (ne_eqb i j e, eq-eqb _ _ q, q) (by_kind h (kind_word C i))
      go (no e) (no q) = rw (ne_eqb i j e, ne_eqb _ _ q) (unlike _ _ (λ p a b. q (kind_told _ right r p b ∙ sym (kind_told _ left l p a))))

pub intervals_like : (f : ℕ) (C : List ℕ) (i j : ℕ) → i < f → j < f → Like (interval_at f C i) (interval_at f C j) (same_within f C i j)
unfolding interval_at same_within
intervals_like ℕ.zero C i j l m = absurd (let z : ⊥ = omega arith in z)
intervals_like (ℕ.suc f) C i j l m =
    two_cells ikind_byte ikinds ikind_is C i j (same_within f C) (by i) (by j) interval_byte
    (λ k p e. interval_kind _ k _ _ e)
    (λ k p e. interval_kind _ k _ _ e)
    (interval_node f C i j (lower_like (interval_at f C) (same_within f C) i j (λ x y a b. intervals_like f C x y (omega arith) (omega arith))))
    (λ e w. ap (λ (n : ℕ). get_or ikinds w none >>= by n) e)
  where
    by : ℕ → IKind → Option Interval
    by n k = interval_by (lower n (interval_at f C)) k (part 1 C n) (part 2 C n)

pub quotes_like : (f : ℕ) (C : List ℕ) (i j : ℕ) → i < f → j < f → Like (quote_at f C i) (quote_at f C j) (same_within f C i j)
unfolding quote_at same_within
quotes_like ℕ.zero C i j l m = absurd (let z : ⊥ = omega arith in z)
quotes_like (ℕ.suc f) C i j l m =
    two_cells kind_byte kinds kind_is C i j (same_within f C) (by i) (by j) quote_byte
    (λ k p e. quote_kind _ _ k _ _ _ e)
    (λ k p e. quote_kind _ _ k _ _ _ e)
    (quote_node f C i j (lower_like (quote_at f C) (same_within f C) i j (λ x y a b. quotes_like f C x y (omega arith) (omega arith))) (lower_like (interval_at f C) (same_within f C) i j (λ x y a b. intervals_like f C x y (omega arith) (omega arith))))
    (λ e w. ap (λ (n : ℕ). get_or kinds w none >>= by n) e)
  where
    by : ℕ → Kind → Option Quote
    by n k = quote_by (lower n (quote_at f C)) (lower n (interval_at f C)) k (part 1 C n) (part 2 C n) (part 3 C n)

pub contexts_like : (f : ℕ) (C : List ℕ) (i j : ℕ) → i < f → j < f → Like (context_at f C i) (context_at f C j) (same_within f C i j)
unfolding context_at same_within
contexts_like ℕ.zero C i j l m = absurd (let z : ⊥ = omega arith in z)
contexts_like (ℕ.suc f) C i j l m =
    two_cells ckind_byte ckinds ckind_is C i j (same_within f C) (by i) (by j) context_byte
    (λ k p e. context_kind _ _ k _ _ e)
    (λ k p e. context_kind _ _ k _ _ e)
    (context_node f C i j (lower_like (context_at f C) (same_within f C) i j (λ x y a b. contexts_like f C x y (omega arith) (omega arith))) (lower_like (quote_at f C) (same_within f C) i j (λ x y a b. quotes_like f C x y (omega arith) (omega arith))))
    (λ e w. ap (λ (n : ℕ). get_or ckinds w none >>= by n) e)
  where
    by : ℕ → CKind → Option Quotes
    by n k = context_by (lower n (context_at f C)) (lower n (quote_at f C)) k (part 1 C n) (part 2 C n)
