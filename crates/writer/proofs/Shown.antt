-- What a text that is written through a window leaves in the buffer: the part from the window's start on, as far as the buffer goes; and
-- how many bytes are left then.
-- Assumes nothing.
use mathlib.Core.Path.{◌≡◌, sym, ap}
use mathlib.Core.List.{List, [], ◌∷◌, ◌++◌, append_assoc, append-nil}
use Prim.Native.Nat.{ℕ, zero, suc, ◌+◌, ◌-◌, ◌<◌, ◌≤◌, min}
use native.Mathlib.Nat.{min-zero, zero-min, suc-min-suc, add-zero, zero-add, zero-sub, sub-zero, suc-sub-suc, min-le_left}
use native.Mathlib.Numerals.{sub-one}
use native.Mathlib.Decide.{dec_le, dec_lt}
use native.Mathlib.Omega.{arith}
use borrow.Author.Tests.{lt-ltb, le-ltb}
use lib.Dec.{eqb-suc-zero}
use lib.ListN.{length, take, drop, length-append, length-drop, drop_of_length-le}
use lib.Seq.{take-nil, drop-nil, set-append_seam, length-take-le}
use Rattle.std.specs.Borrow.{MutBor}
use Rattle.writer.specs.Text.{Text}
use Rattle.writer.specs.Window.{writer, start, put, written, Shown}
use Rattle.writer.specs.declared.Output.{Output}
use Rattle.writer.proofs.Laws.{written_nil, written_cons}

module _ (lent : MutBor (List ℕ)) where
  -- The output into the buffer, where that holds the list.
  abbrev holding : List ℕ → ℕ → ℕ → ℕ → ℕ → Output
  holding held skip filled left most = record { writer = writer skip filled left most; buf = record lent { now = held } }

  -- One byte after those that are filled.
  put_next : (b x l m : ℕ) (d r : List ℕ) → put b (holding (d ++ x ∷ r) 0 (length d) l m) ≡ holding (d ++ b ∷ r) 0 (length d + 1) l m
  unfolding put
  put_next b x l m d r =
      let h : length d < length (d ++ x ∷ r) = rw length-append (omega arith) in
      rw (lt-ltb _ _ h, put, set-append_seam)

  -- One byte where the buffer is full: it is counted, or all that is to be counted is.
  put_counted : (b f l m : ℕ) (d : List ℕ) → length d ≤ f → l < m → put b (holding d 0 f l m) ≡ holding d 0 f (l + 1) m
  unfolding put
  put_counted b f l m d h k = rw (le-ltb _ _ h, put, lt-ltb _ _ k, put)

  put_enough : (b f l m : ℕ) (d : List ℕ) → length d ≤ f → m ≤ l → put b (holding d 0 f l m) ≡ holding d 0 f l m
  unfolding put
  put_enough b f l m d h k = rw (le-ltb _ _ h, put, le-ltb _ _ k, put)

  -- A text where the buffer is full.
  count : (t : Text) (f l m : ℕ) (d : List ℕ) → length d ≤ f → written t (holding d 0 f l m) ≡ holding d 0 f (l + min (m - l) (length t)) m
  count [] f l m d h = rw (written_nil, min-zero, add-zero)
  count (b ∷ t) f l m d h = elim (dec_lt l m) [
    | yes k ↦
        let e : m - l ≡ suc (m - (l + 1)) = omega arith in
        let g : l + suc (min (m - (l + 1)) (length t)) ≡ l + 1 + min (m - (l + 1)) (length t) = omega arith in
        rw (written_cons, put_counted b f l m d h k, e, suc-min-suc, g) (count t f (l + 1) m d h)
    | no k ↦
        let e : m - l ≡ 0 = omega arith in
        let i : written t (holding d 0 f l m) ≡ holding d 0 f l m = rw (e, zero-min, add-zero) at (count t f l m d h) in
        rw (written_cons, put_enough b f l m d h (omega arith), i, e, zero-min, add-zero)
  ]

  -- Where nothing is to be skipped: d is filled, r is free.
  fill : (t : Text) (m : ℕ) (d r : List ℕ) → written t (holding (d ++ r) 0 (length d) 0 m) ≡ holding (d ++ (take (length r) t ++ drop (min (length r) (length t)) r)) 0 (length d + min (length r) (length t)) (min m (length t - length r)) m
  fill [] m d r = rw (written_nil, zero-sub, min-zero (length r), min-zero m, add-zero, take-nil)
  fill (b ∷ t) m d [] = rw (zero-min, add-zero, append-nil, sub-zero) (rw (sub-zero, zero-add) at (count (b ∷ t) (length d) 0 m d (omega arith)))
  fill (b ∷ t) m d (x ∷ r) =
      let l : length (d ++ b ∷ []) ≡ length d + 1 = length-append d (b ∷ []) in
      let s : (d ++ b ∷ []) ++ r ≡ d ++ b ∷ r = append_assoc d (b ∷ []) r in
      let n : min (suc (length r)) (suc (length t)) ≡ suc (min (length r) (length t)) = suc-min-suc (length r) (length t) in
      let i : written t (holding (d ++ b ∷ r) 0 (length d + 1) 0 m) ≡ holding ((d ++ b ∷ []) ++ (take (length r) t ++ drop (min (length r) (length t)) r)) 0 (length d + 1 + min (length r) (length t)) (min m (length t - length r)) m = rw (l, s) at (fill t m (d ++ b ∷ []) r) in
      let k : length d + 1 + min (length r) (length t) ≡ length d + suc (min (length r) (length t)) = omega arith in
      rw (written_cons, put_next, i, n, k, suc-sub-suc, append_assoc)

  -- Where bytes are to be skipped.
  put_skip : (b s f l m : ℕ) (buf : List ℕ) → put b (holding buf (suc s) f l m) ≡ holding buf s f l m
  unfolding put
  put_skip b s f l m buf = rw (eqb-suc-zero, put, sub-one)

  skip : (t : Text) (s f l m : ℕ) (buf : List ℕ) → written t (holding buf s f l m) ≡ written (drop s t) (holding buf (s - length t) f l m)
  skip [] s f l m buf = rw (drop-nil, sub-zero)
  skip (b ∷ t) zero f l m buf = rw zero-sub
  skip (b ∷ t) (suc s) f l m buf = rw (written_cons, put_skip, suc-sub-suc) (skip t s f l m buf)

  -- What an output says of itself.
  abbrev Says : Text → ℕ → ℕ → Output → Type 0
  Says t from most o = Shown t from most lent.now o.writer.filled o.writer.left o.buf.now

  to_shown : (t : Text) (from most n : ℕ) (o : Output) → o ≡ holding (take (length lent.now) (drop from t) ++ drop (min (length lent.now) (length t - from)) lent.now) n (min (length lent.now) (length t - from)) (min most (length t - from - length lent.now)) most → Says t from most o
  to_shown t from most n o e = record { counted = ap (λ x. x.writer.filled) e; rest = ap (λ x. x.writer.left) e; held = rw (ap (λ x. x.writer.filled) e) (ap (λ x. x.buf.now) e) }

  -- An output that started at the window, when the text is written.
  shown : (t : Text) (from most : ℕ) → Says t from most (written t (start from most lent))
  shown t from most = elim (dec_le from (length t)) [
    | yes h ↦ to_shown t from most 0 (written t (start from most lent)) (let e : from - length t ≡ 0 = omega arith in rw (skip t from 0 0 most lent.now, e) (rw (length-drop, zero-add) at (fill (drop from t) most [] lent.now)))
    | no h ↦ to_shown t from most (from - length t) (written t (start from most lent)) (let e : length t - from ≡ 0 = omega arith in let g : length t ≤ from = omega arith in let d : drop from t ≡ [] = drop_of_length-le t g in rw (skip t from 0 0 most lent.now, d, written_nil, e, zero-sub, min-zero (length lent.now), min-zero most, take-nil))
  ]

  -- The bytes that are shown stand within the buffer.
  within : (t : Text) (from most n left : ℕ) (after : List ℕ) → Shown t from most lent.now n left after → length after ≡ length lent.now → (n ≤ length after) × (n ≡ length (take n after))
  within t from most n left after s e =
      let h : n ≤ length after = rw (s.counted, e) (min-le_left (length lent.now) (length t - from)) in
      (h, sym (length-take-le n after h))

  -- Both, of an output that has written the text.
  pub windowed :
      (t : Text) (from most : ℕ) (o : Output)
      → o ≡ written t (start from most lent)
      → length o.buf.now ≡ length lent.now
      → Shown t from most lent.now o.writer.filled o.writer.left o.buf.now × ((o.writer.filled ≤ length o.buf.now) × (o.writer.filled ≡ length (take o.writer.filled o.buf.now)))
  windowed t from most o e l = let h : Says t from most o = rw e (shown t from most) in (h, within t from most o.writer.filled o.writer.left o.buf.now h l)
