-- A judgment is read from words exactly where the words have its kind and each argument that it has is read. Assumes nothing.
use Rattle.std.specs.Prelude.{ℕ, suc, ◌+◌, ◌<◌, ◌≤◌, ◌≡◌, refl, List, [], ◌∷◌, length, get_or}
use Rattle.std.proofs.Math.Option.{some}
use Rattle.std.proofs.Common.{add-zero, arith}
use Rattle.walk.specs.Judgment.{Judgment, kind, Argument, number, of_interval, of_quote, of_context, arguments, ctx, dshiftctx, lookup, lt, le, max, interval, ishift, isubst, shift, subst, dshift, dsubst, has, eq, iend}
use Rattle.link.specs.Table.{◌>>=◌, an_interval, a_quote, a_context, Reads, no_reading, readings, read_ctx, read_dshiftctx, read_lookup, read_lt, read_le, read_max, read_interval, read_ishift, read_isubst, read_shift, read_subst, read_dshift, read_dsubst, read_has, read_eq, read_iend}
use Rattle.search.specs.Newest.{asked, ArgumentWord, LowestWords}
use Rattle.search.specs.Shown.{bound, some_is, none_some}

-- a word is read as an argument
abbrev pub ArgumentRead : ℕ → List ℕ → Argument → ℕ → Type 0
ArgumentRead m C (number n) w = w ≡ n
ArgumentRead m C (of_interval r) w = an_interval m C w ≡ some r
ArgumentRead m C (of_quote t) w = a_quote m C w ≡ some t
ArgumentRead m C (of_context g) w = a_context m C w ≡ some g

infixr 30 ◌then◌
pub data ReadAll (m : ℕ) (C : List ℕ) : List Argument → List ℕ → Type 0 where
  none_left : {ws : List ℕ} → ReadAll m C [] ws
  ◌then◌ : {x : Argument} {xs : List Argument} {w : ℕ} {ws : List ℕ} → ArgumentRead m C x w → ReadAll m C xs ws → ReadAll m C (x ∷ xs) (w ∷ ws)

pub record Told (k m : ℕ) (C : List ℕ) (a b c d e : ℕ) (j : Judgment) : Type 0 where
  pub is : kind j ≡ k
  pub all : ReadAll m C (arguments j) (a ∷ b ∷ c ∷ d ∷ e ∷ [])

at_judgment : {k m : ℕ} {C : List ℕ} {a b c d e : ℕ} {i j : Judgment} → i ≡ j → Told k m C a b c d e i → Told k m C a b c d e j
at_judgment q x = rw (← q) x

-- written by tools/written.py: what a reading tells
told_ctx : (C : List ℕ) (j : Judgment) (m a b c d e : ℕ) → read_ctx m C a b c d e ≡ some j → Told 0 m C a b c d e j
unfolding read_ctx
told_ctx _ _ _ _ _ _ _ _ e = let x = bound _ _ e in at_judgment (some_is x.next) (record { is = refl; all = refl then x.is then none_left })

told_dshiftctx : (C : List ℕ) (j : Judgment) (m a b c d e : ℕ) → read_dshiftctx m C a b c d e ≡ some j → Told 1 m C a b c d e j
unfolding read_dshiftctx
told_dshiftctx _ _ _ _ _ _ _ _ e = let x = bound _ _ e in let y = bound _ _ x.next in at_judgment (some_is y.next) (record { is = refl; all = x.is then refl then y.is then none_left })

told_lookup : (C : List ℕ) (j : Judgment) (m a b c d e : ℕ) → read_lookup m C a b c d e ≡ some j → Told 2 m C a b c d e j
unfolding read_lookup
told_lookup _ _ _ _ _ _ _ _ e = let x = bound _ _ e in let y = bound _ _ x.next in at_judgment (some_is y.next) (record { is = refl; all = x.is then refl then y.is then none_left })

told_lt : (C : List ℕ) (j : Judgment) (m a b c d e : ℕ) → read_lt m C a b c d e ≡ some j → Told 3 m C a b c d e j
unfolding read_lt
told_lt _ _ _ _ _ _ _ _ e = at_judgment (some_is e) (record { is = refl; all = refl then refl then none_left })

told_le : (C : List ℕ) (j : Judgment) (m a b c d e : ℕ) → read_le m C a b c d e ≡ some j → Told 4 m C a b c d e j
unfolding read_le
told_le _ _ _ _ _ _ _ _ e = at_judgment (some_is e) (record { is = refl; all = refl then refl then none_left })

told_max : (C : List ℕ) (j : Judgment) (m a b c d e : ℕ) → read_max m C a b c d e ≡ some j → Told 5 m C a b c d e j
unfolding read_max
told_max _ _ _ _ _ _ _ _ e = at_judgment (some_is e) (record { is = refl; all = refl then refl then refl then none_left })

told_interval : (C : List ℕ) (j : Judgment) (m a b c d e : ℕ) → read_interval m C a b c d e ≡ some j → Told 6 m C a b c d e j
unfolding read_interval
told_interval _ _ _ _ _ _ _ _ e = let x = bound _ _ e in at_judgment (some_is x.next) (record { is = refl; all = refl then x.is then none_left })

told_ishift : (C : List ℕ) (j : Judgment) (m a b c d e : ℕ) → read_ishift m C a b c d e ≡ some j → Told 7 m C a b c d e j
unfolding read_ishift
told_ishift _ _ _ _ _ _ _ _ e = let x = bound _ _ e in let y = bound _ _ x.next in at_judgment (some_is y.next) (record { is = refl; all = x.is then refl then y.is then none_left })

told_isubst : (C : List ℕ) (j : Judgment) (m a b c d e : ℕ) → read_isubst m C a b c d e ≡ some j → Told 8 m C a b c d e j
unfolding read_isubst
told_isubst _ _ _ _ _ _ _ _ e = let x = bound _ _ e in let y = bound _ _ x.next in let z = bound _ _ y.next in at_judgment (some_is z.next) (record { is = refl; all = x.is then refl then y.is then z.is then none_left })

told_shift : (C : List ℕ) (j : Judgment) (m a b c d e : ℕ) → read_shift m C a b c d e ≡ some j → Told 9 m C a b c d e j
unfolding read_shift
told_shift _ _ _ _ _ _ _ _ e = let x = bound _ _ e in let y = bound _ _ x.next in at_judgment (some_is y.next) (record { is = refl; all = x.is then refl then y.is then none_left })

told_subst : (C : List ℕ) (j : Judgment) (m a b c d e : ℕ) → read_subst m C a b c d e ≡ some j → Told 10 m C a b c d e j
unfolding read_subst
told_subst _ _ _ _ _ _ _ _ e = let x = bound _ _ e in let y = bound _ _ x.next in let z = bound _ _ y.next in at_judgment (some_is z.next) (record { is = refl; all = x.is then refl then y.is then z.is then none_left })

told_dshift : (C : List ℕ) (j : Judgment) (m a b c d e : ℕ) → read_dshift m C a b c d e ≡ some j → Told 11 m C a b c d e j
unfolding read_dshift
told_dshift _ _ _ _ _ _ _ _ e = let x = bound _ _ e in let y = bound _ _ x.next in at_judgment (some_is y.next) (record { is = refl; all = x.is then refl then y.is then none_left })

told_dsubst : (C : List ℕ) (j : Judgment) (m a b c d e : ℕ) → read_dsubst m C a b c d e ≡ some j → Told 12 m C a b c d e j
unfolding read_dsubst
told_dsubst _ _ _ _ _ _ _ _ e = let x = bound _ _ e in let y = bound _ _ x.next in let z = bound _ _ y.next in at_judgment (some_is z.next) (record { is = refl; all = x.is then refl then y.is then z.is then none_left })

told_has : (C : List ℕ) (j : Judgment) (m a b c d e : ℕ) → read_has m C a b c d e ≡ some j → Told 13 m C a b c d e j
unfolding read_has
told_has _ _ _ _ _ _ _ _ e = let x = bound _ _ e in let y = bound _ _ x.next in let z = bound _ _ y.next in at_judgment (some_is z.next) (record { is = refl; all = refl then x.is then y.is then z.is then none_left })

told_eq : (C : List ℕ) (j : Judgment) (m a b c d e : ℕ) → read_eq m C a b c d e ≡ some j → Told 14 m C a b c d e j
unfolding read_eq
told_eq _ _ _ _ _ _ _ _ e = let x = bound _ _ e in let y = bound _ _ x.next in let z = bound _ _ y.next in let w = bound _ _ z.next in at_judgment (some_is w.next) (record { is = refl; all = refl then x.is then y.is then z.is then w.is then none_left })

told_iend : (C : List ℕ) (j : Judgment) (m a b c d e : ℕ) → read_iend m C a b c d e ≡ some j → Told 15 m C a b c d e j
unfolding read_iend
told_iend _ _ _ _ _ _ _ _ e = let x = bound _ _ e in let y = bound _ _ x.next in at_judgment (some_is y.next) (record { is = refl; all = x.is then y.is then none_left })

-- end of what a reading tells

-- each reading of the table

abbrev Tells : ℕ → Reads → Type 0
Tells k r = (C : List ℕ) (j : Judgment) (m a b c d e : ℕ) → r m C a b c d e ≡ some j → Told k m C a b c d e j

infixr 30 ◌also◌
data Each : ℕ → List Reads → Type 0 where
  no_more : {k : ℕ} → Each k []
  ◌also◌ : {k : ℕ} {r : Reads} {rs : List Reads} → Tells k r → Each (suc k) rs → Each k (r ∷ rs)

readings_tell : Each 0 readings
-- written by tools/written.py: each reading
readings_tell = told_ctx also told_dshiftctx also told_lookup also told_lt also told_le also told_max also told_interval also told_ishift also told_isubst also told_shift also told_subst also told_dshift also told_dsubst also told_has also told_eq also told_iend also no_more

-- end of each reading

each_tells : {k : ℕ} {rs : List Reads} → Each k rs → (n : ℕ) → Tells (n + k) (get_or rs n no_reading)
unfolding no_reading
each_tells no_more n C j m a b c d e q = absurd (none_some q)
each_tells {k} (t also ts) ℕ.zero C j m a b c d e q = let z : 0 + k ≡ k = omega arith in rw z (t C j m a b c d e q)
each_tells {k} (t also ts) (ℕ.suc n) C j m a b c d e q = let z : suc n + k ≡ n + suc k = omega arith in rw z (each_tells ts n C j m a b c d e q)

pub told : {k m : ℕ} {C : List ℕ} {a b c d e : ℕ} {j : Judgment} → asked m C k a b c d e ≡ some j → Told k m C a b c d e j
told {k} {m} {C} {a} {b} {c} {d} {e} {j} q = rw add-zero at (each_tells readings_tell k C j m a b c d e q)

pub arguments_asked : (j : Judgment) (m : ℕ) (C : List ℕ) (a b c d e : ℕ) → ReadAll m C (arguments j) (a ∷ b ∷ c ∷ d ∷ e ∷ []) → asked m C (kind j) a b c d e ≡ some j
unfolding read_ctx read_dshiftctx read_lookup read_lt read_le read_max read_interval read_ishift read_isubst read_shift read_subst read_dshift read_dsubst read_has read_eq read_iend ◌>>=◌
-- written by tools/written.py: read by its arguments
arguments_asked (ctx d g) _ _ _ _ _ _ _ (h0 then h1 then none_left) = rw (h0, h1)
arguments_asked (dshiftctx g k h) _ _ _ _ _ _ _ (h0 then h1 then h2 then none_left) = rw (h0, h1, h2)
arguments_asked (lookup g n A) _ _ _ _ _ _ _ (h0 then h1 then h2 then none_left) = rw (h0, h1, h2)
arguments_asked (lt m n) _ _ _ _ _ _ _ (h0 then h1 then none_left) = rw (h0, h1)
arguments_asked (le m n) _ _ _ _ _ _ _ (h0 then h1 then none_left) = rw (h0, h1)
arguments_asked (max m n k) _ _ _ _ _ _ _ (h0 then h1 then h2 then none_left) = rw (h0, h1, h2)
arguments_asked (interval d r) _ _ _ _ _ _ _ (h0 then h1 then none_left) = rw (h0, h1)
arguments_asked (ishift r k r') _ _ _ _ _ _ _ (h0 then h1 then h2 then none_left) = rw (h0, h1, h2)
arguments_asked (isubst r k s r') _ _ _ _ _ _ _ (h0 then h1 then h2 then h3 then none_left) = rw (h0, h1, h2, h3)
arguments_asked (shift t k t') _ _ _ _ _ _ _ (h0 then h1 then h2 then none_left) = rw (h0, h1, h2)
arguments_asked (subst t k s t') _ _ _ _ _ _ _ (h0 then h1 then h2 then h3 then none_left) = rw (h0, h1, h2, h3)
arguments_asked (dshift t k t') _ _ _ _ _ _ _ (h0 then h1 then h2 then none_left) = rw (h0, h1, h2)
arguments_asked (dsubst t k r t') _ _ _ _ _ _ _ (h0 then h1 then h2 then h3 then none_left) = rw (h0, h1, h2, h3)
arguments_asked (has d g t A) _ _ _ _ _ _ _ (h0 then h1 then h2 then h3 then none_left) = rw (h0, h1, h2, h3)
arguments_asked (eq d g a b A) _ _ _ _ _ _ _ (h0 then h1 then h2 then h3 then h4 then none_left) = rw (h0, h1, h2, h3, h4)
arguments_asked (iend r e) _ _ _ _ _ _ _ (h0 then h1 then none_left) = rw (h0, h1)

-- end of read by its arguments

-- words that are fixed are read

pub read_length : {m : ℕ} {C : List ℕ} {xs : List Argument} {ws : List ℕ} → ReadAll m C xs ws → length xs ≤ length ws
read_length none_left = omega arith
read_length (p then ps) = let l = read_length ps in omega arith

fixed_read : (m : ℕ) (C : List ℕ) (x : Argument) (w : ℕ) → ArgumentWord m C x w → ArgumentRead m C x w
fixed_read m C (number n) w p = p
fixed_read m C (of_interval r) w p = p.read
fixed_read m C (of_quote t) w p = p.read
fixed_read m C (of_context g) w p = p.read

all_fixed : (m : ℕ) (C : List ℕ) (xs : List Argument) (ws : List ℕ) → length xs ≤ length ws → ((k : ℕ) → k < length xs → ArgumentWord m C (get_or xs k (number 0)) (get_or ws k 0)) → ReadAll m C xs ws
all_fixed m C [] ws l h = none_left
all_fixed m C (x ∷ xs) [] l h = absurd (let z : ⊥ = omega arith in z)
all_fixed m C (x ∷ xs) (w ∷ ws) l h = fixed_read m C x w (h 0 (omega arith)) then all_fixed m C xs ws (omega arith) (λ k i. h (suc k) (omega arith))

few : (j : Judgment) → length (arguments j) ≤ 5
-- written by tools/written.py: few arguments
few (ctx d g) = omega arith
few (dshiftctx g k h) = omega arith
few (lookup g n A) = omega arith
few (lt m n) = omega arith
few (le m n) = omega arith
few (max m n k) = omega arith
few (interval d r) = omega arith
few (ishift r k r') = omega arith
few (isubst r k s r') = omega arith
few (shift t k t') = omega arith
few (subst t k s t') = omega arith
few (dshift t k t') = omega arith
few (dsubst t k r t') = omega arith
few (has d g t A) = omega arith
few (eq d g a b A) = omega arith
few (iend r e) = omega arith

-- end of few arguments

pub lowest_read : {m : ℕ} {C : List ℕ} {a b c d e : ℕ} {j : Judgment} → LowestWords m C a b c d e j → asked m C (kind j) a b c d e ≡ some j
lowest_read {m} {C} {a} {b} {c} {d} {e} {j} x = let f = few j in arguments_asked j m C a b c d e (all_fixed m C (arguments j) (a ∷ b ∷ c ∷ d ∷ e ∷ []) f (λ k l. x.words k (omega arith)))
