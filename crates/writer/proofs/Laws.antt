-- Laws of the definitions, by which the functions' proofs go. Assumes nothing.
use mathlib.Core.Path.{◌≡◌, refl, sym, ap, ◌∙◌}
use mathlib.Core.Bool.{Bool, true, ◌&&◌, and-eq-true_iff}
use mathlib.Core.List.{[], ◌∷◌, ◌++◌}
use Prim.Native.Nat.{ℕ, zero, suc, ◌+◌, ◌-◌, ◌/◌, ◌<◌, ◌≤◌}
use native.Mathlib.Decide.{dec_lt}
use Rattle.std.proofs.Math.Decide.{ℕ_discrete}
use native.Mathlib.Omega.{arith}
use borrow.Author.Tests.{lt-ltb, le-ltb, eq-eqb, ne_eqb, eqb-true, leb-true}
use lib.Dec.{leb, eqb}
use lib.ListN.{length, get_or, drop, drop_of_length-le}
use Rattle.std.proofs.lemmas.List.{at_drop_more}
use Rattle.writer.specs.Text.{Text, each, digit, digits, decimal}
use Rattle.writer.specs.Window.{put, ended_in, ended, written}
use Rattle.writer.specs.declared.Output.{Output}

-- writing

pub written_nil : (o : Output) → written [] o ≡ o
unfolding written
written_nil o = refl

pub written_cons : (b : ℕ) (t : Text) (o : Output) → written (b ∷ t) o ≡ written t (put b o)
unfolding written
written_cons b t o = refl

pub written_append : (s t : Text) (o : Output) → written (s ++ t) o ≡ written t (written s o)
unfolding written
written_append [] t o = refl
written_append (b ∷ s) t o = written_append s t (put b o)

-- By these a text that is written piece by piece is the whole, written at once.
pub ruleset writing = (written_nil, written_cons, written_append)

both : {a b : Bool} → (a && b) ≡ true → (a ≡ true) × (b ≡ true)
both {a} {b} h = (and-eq-true_iff a b).0 h

ended_parts : (o : Output) → ended o ≡ true → (o.writer.skip ≡ 0) × ((length o.buf.now ≤ o.writer.filled) × (o.writer.most ≤ o.writer.left))
unfolding ended ended_in
ended_parts o h =
    let k : (eqb o.writer.skip 0 ≡ true) × ((leb (length o.buf.now) o.writer.filled && leb o.writer.most o.writer.left) ≡ true) = both h in
    let l : (leb (length o.buf.now) o.writer.filled ≡ true) × (leb o.writer.most o.writer.left ≡ true) = both k.1 in
    (eqb-true _ _ k.0, (leb-true _ _ l.0, leb-true _ _ l.1))

put_ended : (b : ℕ) (o : Output) → ended o ≡ true → put b o ≡ o
unfolding put
put_ended b o h = let k : (o.writer.skip ≡ 0) × ((length o.buf.now ≤ o.writer.filled) × (o.writer.most ≤ o.writer.left)) = ended_parts o h in
    rw (eq-eqb _ _ k.0, put, le-ltb _ _ k.1.0, put, le-ltb _ _ k.1.1, put)

-- Where the output has ended nothing changes.
pub written_ended : (t : Text) (o : Output) → ended o ≡ true → written t o ≡ o
unfolding written
written_ended [] o h = refl
written_ended (b ∷ t) o h = ap (written t) (put_ended b o h) ∙ written_ended t o h

-- The buffer stays the one that was lent.
put_same : (b : ℕ) (o : Output) → (put b o).buf.ghost_name ≡ o.buf.ghost_name
unfolding put
put_same b o = elim (ℕ_discrete o.writer.skip 0) [
  | yes h ↦ elim (dec_lt o.writer.filled (length o.buf.now)) [
    | yes k ↦ rw (eq-eqb _ _ h, put, lt-ltb _ _ k, put)
    | no k ↦ elim (dec_lt o.writer.left o.writer.most) [
      | yes l ↦ rw (eq-eqb _ _ h, put, le-ltb o.writer.filled (length o.buf.now) (omega arith), put, lt-ltb _ _ l, put)
      | no l ↦ rw (eq-eqb _ _ h, put, le-ltb o.writer.filled (length o.buf.now) (omega arith), put, le-ltb o.writer.left o.writer.most (omega arith), put)
    ]
  ]
  | no h ↦ rw (ne_eqb _ _ h, put)
]

pub written_same : (t : Text) (o : Output) → (written t o).buf.ghost_name ≡ o.buf.ghost_name
unfolding written
written_same [] o = refl
written_same (b ∷ t) o = written_same t (put b o) ∙ put_same b o

-- loops

-- A turn of a loop that writes the k-th of n texts, and its end.
each_turn : (f : ℕ → Text) (k n : ℕ) → k < n → each f k (n - k) ≡ f k ++ each f (k + 1) (n - (k + 1))
unfolding each
each_turn f k n h = let e : n - k ≡ suc (n - (k + 1)) = omega arith in let g : k + 1 ≡ suc k = omega arith in rw (e, g)

pub written_turn : (f : ℕ → Text) (k n : ℕ) (o' o : Output) → k < n → o' ≡ written (f k) o → written (each f (k + 1) (n - (k + 1))) o' ≡ written (each f k (n - k)) o
written_turn f k n o' o h e = rw (e, each_turn f k n h, written_append)

pub written_end : (f : ℕ → Text) (k n : ℕ) (o : Output) → n ≤ k → written (each f k (n - k)) o ≡ o
unfolding each written
written_end f k n o h = let e : n - k ≡ 0 = omega arith in rw e

-- A turn of a loop that puts the k-th byte of a text, and its end.
pub written_next : (t : Text) (k : ℕ) (o : Output) → k < length t → written (drop (k + 1) t) (put (get_or t k 0) o) ≡ written (drop k t) o
unfolding written
written_next t k o h = sym (at_drop_more (λ s. written s o) t k 0 h)

pub written_past : (t : Text) (k : ℕ) (o : Output) → length t ≤ k → written (drop k t) o ≡ o
written_past t k o h = rw (drop_of_length-le t h, written_nil)

-- numbers

digits_small : (k n : ℕ) → n < 10 → digits (suc k) n ≡ digit n ∷ []
unfolding digits
digits_small k n h = rw (lt-ltb _ _ h, digits)

digits_more : (k n : ℕ) → 10 ≤ n → digits (suc k) n ≡ digits k (n / 10) ++ digit n ∷ []
unfolding digits
digits_more k n h = rw (le-ltb _ _ h, digits)

digits_enough : (k m n : ℕ) → n < k → n < m → digits k n ≡ digits m n
digits_enough zero m n h l = absurd (let z : ⊥ = omega arith in z)
digits_enough (suc k) zero n h l = absurd (let z : ⊥ = omega arith in z)
digits_enough (suc k) (suc m) n h l = elim (dec_lt n 10) [
  | yes s ↦ digits_small k n s ∙ sym (digits_small m n s)
  | no s ↦ (let g : 10 ≤ n = omega arith in digits_more k n g ∙ ap (λ t. t ++ digit n ∷ []) (digits_enough k m (n / 10) (omega arith) (omega arith)) ∙ sym (digits_more m n g))
]

pub decimal_small : (n : ℕ) → n < 10 → decimal n ≡ digit n ∷ []
unfolding decimal
decimal_small n h = digits_small n n h

pub decimal_more : (n : ℕ) → 10 ≤ n → decimal n ≡ decimal (n / 10) ++ digit n ∷ []
unfolding decimal
decimal_more n h = digits_more n n h ∙ ap (λ t. t ++ digit n ∷ []) (digits_enough n (suc (n / 10)) (n / 10) (omega arith) (omega arith))
