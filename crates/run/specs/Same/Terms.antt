-- The bytes of a term that was read become its cells: `built` is `build_term`.
use Rattle.std.proofs.Math.Path.{◌≡◌, refl, sym, ap}
use Rattle.std.proofs.Common.{◌∙◌, arith}
use Rattle.std.proofs.Math.ListN.{length}
use Rattle.std.specs.Prelude.{ℕ, zero, suc, ◌+◌, ◌≤◌, ◌<◌, List, drop}
use Rattle.ast.specs.Words.{up}
use Rattle.producer.specs.Machine.{W, ◌>>=◌, when◌then◌else◌, intern}
use Rattle.walk.specs.Syntax.{Interval, I0, I1, Dim, Neg, Meet, Join, Term, Universe, Var, Nat, Zero, Pi, Lam, App, Path, PathLam, PathApp, Sigma, Pair, Fst, Snd}
use Rattle.walk.specs.Reader.{got, Kind, k_u, k_v, k_nat, k_zero, k_pi, k_lam, k_app, k_path, k_plam, k_papp, k_sigma, k_pair, k_fst, k_snd, IKind, k_0, k_1, k_dim, k_neg, k_meet, k_join, read_interval, read_term}
use Rattle.syntax.specs.Ends.{goes_byte, goes_interval, goes_term}
use Rattle.walk.specs.Bytes.{kind_byte, kind_is, ikind_byte, ikind_is}
use Rattle.syntax.specs.Nodes.{interval_of, term_of, interval_node, term_node, a_part, a_byte, is_ok}
use Rattle.link.specs.Asked.{build_interval, build_term}
use Rattle.run.specs.Build.{byte_at, parts_of, made, Builder, built_one, built_two, built_three, built_body, built}
use Rattle.run.specs.Same.Steps.{then_same, made_then, made_in}

-- the parts of a node

module _ (B : Builder) (kind at : ℕ) where
  one : (n : ℕ) (x : W ℕ) → B at ≡ made n x → built_one B at kind ≡ made n (x >>= λ a. intern kind a 0 0)
  unfolding built_one
  one n x e = rw e (made_then n x _ ∙ sym (made_in n x _))

  two : (n₁ n₂ : ℕ) (x y : W ℕ) → B at ≡ made n₁ x → B n₁ ≡ made n₂ y → built_two B at kind ≡ made n₂ (x >>= λ a. y >>= λ b. intern kind a b 0)
  unfolding built_two
  two n₁ n₂ x y e f = rw e (made_then n₁ x _ ∙ then_same x (λ a. rw f (made_then n₂ y _ ∙ sym (made_in n₂ y _))) ∙ sym (made_in n₂ x _))

  three : (n₁ n₂ n₃ : ℕ) (x y z : W ℕ) → B at ≡ made n₁ x → B n₁ ≡ made n₂ y → B n₂ ≡ made n₃ z → built_three B at kind ≡ made n₃ (x >>= λ a. y >>= λ b. z >>= λ c. intern kind a b c)
  unfolding built_three
  three n₁ n₂ n₃ x y z e f g = rw e (made_then n₁ x _ ∙ then_same x (λ a. rw f (made_then n₂ y _ ∙ then_same y (λ b. rw g (made_then n₃ z _ ∙ sym (made_in n₃ z _))) ∙ sym (made_in n₃ y _))) ∙ sym (made_in n₃ x _))

module _ (bytes : List ℕ) (f at k : ℕ) (b : byte_at bytes at ≡ k) where
  plain : parts_of k ≡ 1 → built (suc f) bytes at ≡ made (up at) (intern k 0 0 0)
  unfolding built built_body when◌then◌else◌
  plain p = rw (b, p)

  numbered : parts_of k ≡ 2 → built (suc f) bytes at ≡ made (up (up at)) (intern k (byte_at bytes (up at)) 0 0)
  unfolding built built_body when◌then◌else◌
  numbered p = rw (b, p)

  of_one : parts_of k ≡ 3 → built (suc f) bytes at ≡ built_one (built f bytes) (up at) k
  unfolding built built_body when◌then◌else◌
  of_one p = rw (b, p)

  of_two : parts_of k ≡ 4 → built (suc f) bytes at ≡ built_two (built f bytes) (up at) k
  unfolding built built_body when◌then◌else◌
  of_two p = rw (b, p)

  of_three : parts_of k ≡ 5 → built (suc f) bytes at ≡ built_three (built f bytes) (up at) k
  unfolding built built_body when◌then◌else◌
  of_three p = rw (b, p)

-- offsets are words
pub up_is : (n : ℕ) → n ≤ 65536 → up n ≡ n + 1
unfolding up
up_is n l = omega arith

-- what was read, by its parts
ended : {A : Type 0} (build : A → W ℕ) (x : W (ℕ × ℕ)) {a b : A} {end stop : ℕ} → a ≡ b → end ≡ stop → x ≡ made stop (build b) → x ≡ made end (build a)
ended build x p s h = rw (p, s) h

module _ (bytes : List ℕ) (short : length bytes ≤ 65536) where
  pub built_interval : (f at : ℕ) {a : Interval} {rest : List ℕ} {end : ℕ} → read_interval f (drop at bytes) at ≡ got a rest end → built f bytes at ≡ made end (build_interval a)
  unfolding read_interval build_interval interval_of parts_of
  built_interval zero at e = absurd (let z : ◌≡◌ {A = ℕ} 0 1 = cc in omega arith)
  built_interval (suc f) at {a} {rest} {end} e = let n = interval_node f bytes at e in go n.kind (ikind_is (byte_at bytes at) n.kind n.here) n.inside n.follows (λ from _ _ _. built_interval f from)
    where
      go : (k : IKind) → byte_at bytes at ≡ ikind_byte k → at < length bytes → interval_of f k (drop (at + 1) bytes) (at + 1) ≡ got a rest end → ((from : ℕ) (r : Interval) (rest : List ℕ) (end : ℕ) → read_interval f (drop from bytes) from ≡ got r rest end → built f bytes from ≡ made end (build_interval r)) → built (suc f) bytes at ≡ made end (build_interval a)
      -- written by tools/written.py: kinds of an interval
      go k_0 b l e ih = let (p, q, s) = is_ok I0 _ _ e in ended build_interval _ p s (plain bytes f at 16 b refl ∙ rw (up_is at (omega arith)))
      go k_1 b l e ih = let (p, q, s) = is_ok I1 _ _ e in ended build_interval _ p s (plain bytes f at 17 b refl ∙ rw (up_is at (omega arith)))
      go k_dim b l e ih =
          let w = a_part _ goes_byte bytes (at + 1) e in
          let c = a_byte bytes (at + 1) w.one in
          let (p, q, s) = is_ok (Dim w.first) _ _ w.two in
          ended build_interval _ (p ∙ ap Dim c.is) (s ∙ c.stop) (numbered bytes f at 18 b refl ∙ rw (up_is at (omega arith), up_is (at + 1) (omega (arith, c.inside))))
      go k_neg b l e ih =
          let w = a_part _ (goes_interval f) bytes (at + 1) e in
          let (p, q, s) = is_ok (Neg w.first) _ _ w.two in
          ended build_interval _ p s (of_one bytes f at 19 b refl ∙ rw (up_is at (omega arith)) (one (built f bytes) 19 (at + 1) _ _ (ih (at + 1) _ _ _ w.one)))
      go k_meet b l e ih =
          let w = a_part _ (goes_interval f) bytes (at + 1) e in
          let v = a_part _ (goes_interval f) bytes w.middle w.two in
          let (p, q, s) = is_ok (Meet w.first v.first) _ _ v.two in
          ended build_interval _ p s (of_two bytes f at 20 b refl ∙ rw (up_is at (omega arith)) (two (built f bytes) 20 (at + 1) _ _ _ _ (ih (at + 1) _ _ _ w.one) (ih w.middle _ _ _ v.one)))
      go k_join b l e ih =
          let w = a_part _ (goes_interval f) bytes (at + 1) e in
          let v = a_part _ (goes_interval f) bytes w.middle w.two in
          let (p, q, s) = is_ok (Join w.first v.first) _ _ v.two in
          ended build_interval _ p s (of_two bytes f at 21 b refl ∙ rw (up_is at (omega arith)) (two (built f bytes) 21 (at + 1) _ _ _ _ (ih (at + 1) _ _ _ w.one) (ih w.middle _ _ _ v.one)))
      -- end of kinds of an interval

  pub built_term : (f at : ℕ) {a : Term} {rest : List ℕ} {end : ℕ} → read_term f (drop at bytes) at ≡ got a rest end → built f bytes at ≡ made end (build_term a)
  unfolding read_term build_term term_of parts_of
  built_term zero at e = absurd (let z : ◌≡◌ {A = ℕ} 0 1 = cc in omega arith)
  built_term (suc f) at {a} {rest} {end} e = let n = term_node f bytes at e in go n.kind (kind_is (byte_at bytes at) n.kind n.here) n.inside n.follows (λ from _ _ _. built_term f from)
    where
      go : (k : Kind) → byte_at bytes at ≡ kind_byte k → at < length bytes → term_of f k (drop (at + 1) bytes) (at + 1) ≡ got a rest end → ((from : ℕ) (t : Term) (rest : List ℕ) (end : ℕ) → read_term f (drop from bytes) from ≡ got t rest end → built f bytes from ≡ made end (build_term t)) → built (suc f) bytes at ≡ made end (build_term a)
      -- written by tools/written.py: kinds of a term
      go k_u b l e ih =
          let w = a_part _ goes_byte bytes (at + 1) e in
          let c = a_byte bytes (at + 1) w.one in
          let (p, q, s) = is_ok (Universe w.first) _ _ w.two in
          ended build_term _ (p ∙ ap Universe c.is) (s ∙ c.stop) (numbered bytes f at 1 b refl ∙ rw (up_is at (omega arith), up_is (at + 1) (omega (arith, c.inside))))
      go k_v b l e ih =
          let w = a_part _ goes_byte bytes (at + 1) e in
          let c = a_byte bytes (at + 1) w.one in
          let (p, q, s) = is_ok (Var w.first) _ _ w.two in
          ended build_term _ (p ∙ ap Var c.is) (s ∙ c.stop) (numbered bytes f at 2 b refl ∙ rw (up_is at (omega arith), up_is (at + 1) (omega (arith, c.inside))))
      go k_nat b l e ih = let (p, q, s) = is_ok Nat _ _ e in ended build_term _ p s (plain bytes f at 3 b refl ∙ rw (up_is at (omega arith)))
      go k_zero b l e ih = let (p, q, s) = is_ok Zero _ _ e in ended build_term _ p s (plain bytes f at 4 b refl ∙ rw (up_is at (omega arith)))
      go k_pi b l e ih =
          let w = a_part _ (goes_term f) bytes (at + 1) e in
          let v = a_part _ (goes_term f) bytes w.middle w.two in
          let (p, q, s) = is_ok (Pi w.first v.first) _ _ v.two in
          ended build_term _ p s (of_two bytes f at 5 b refl ∙ rw (up_is at (omega arith)) (two (built f bytes) 5 (at + 1) _ _ _ _ (ih (at + 1) _ _ _ w.one) (ih w.middle _ _ _ v.one)))
      go k_lam b l e ih =
          let w = a_part _ (goes_term f) bytes (at + 1) e in
          let v = a_part _ (goes_term f) bytes w.middle w.two in
          let (p, q, s) = is_ok (Lam w.first v.first) _ _ v.two in
          ended build_term _ p s (of_two bytes f at 6 b refl ∙ rw (up_is at (omega arith)) (two (built f bytes) 6 (at + 1) _ _ _ _ (ih (at + 1) _ _ _ w.one) (ih w.middle _ _ _ v.one)))
      go k_app b l e ih =
          let w = a_part _ (goes_term f) bytes (at + 1) e in
          let v = a_part _ (goes_term f) bytes w.middle w.two in
          let (p, q, s) = is_ok (App w.first v.first) _ _ v.two in
          ended build_term _ p s (of_two bytes f at 7 b refl ∙ rw (up_is at (omega arith)) (two (built f bytes) 7 (at + 1) _ _ _ _ (ih (at + 1) _ _ _ w.one) (ih w.middle _ _ _ v.one)))
      go k_path b l e ih =
          let w = a_part _ (goes_term f) bytes (at + 1) e in
          let v = a_part _ (goes_term f) bytes w.middle w.two in
          let y = a_part _ (goes_term f) bytes v.middle v.two in
          let (p, q, s) = is_ok (Path w.first v.first y.first) _ _ y.two in
          ended build_term _ p s (of_three bytes f at 8 b refl ∙ rw (up_is at (omega arith)) (three (built f bytes) 8 (at + 1) _ _ _ _ _ _ (ih (at + 1) _ _ _ w.one) (ih w.middle _ _ _ v.one) (ih v.middle _ _ _ y.one)))
      go k_plam b l e ih =
          let w = a_part _ (goes_term f) bytes (at + 1) e in
          let v = a_part _ (goes_term f) bytes w.middle w.two in
          let (p, q, s) = is_ok (PathLam w.first v.first) _ _ v.two in
          ended build_term _ p s (of_two bytes f at 9 b refl ∙ rw (up_is at (omega arith)) (two (built f bytes) 9 (at + 1) _ _ _ _ (ih (at + 1) _ _ _ w.one) (ih w.middle _ _ _ v.one)))
      go k_papp b l e ih =
          let w = a_part _ (goes_term f) bytes (at + 1) e in
          let v = a_part _ (goes_interval f) bytes w.middle w.two in
          let (p, q, s) = is_ok (PathApp w.first v.first) _ _ v.two in
          ended build_term _ p s (of_two bytes f at 10 b refl ∙ rw (up_is at (omega arith)) (two (built f bytes) 10 (at + 1) _ _ _ _ (ih (at + 1) _ _ _ w.one) (built_interval f w.middle v.one)))
      go k_sigma b l e ih =
          let w = a_part _ (goes_term f) bytes (at + 1) e in
          let v = a_part _ (goes_term f) bytes w.middle w.two in
          let (p, q, s) = is_ok (Sigma w.first v.first) _ _ v.two in
          ended build_term _ p s (of_two bytes f at 11 b refl ∙ rw (up_is at (omega arith)) (two (built f bytes) 11 (at + 1) _ _ _ _ (ih (at + 1) _ _ _ w.one) (ih w.middle _ _ _ v.one)))
      go k_pair b l e ih =
          let w = a_part _ (goes_term f) bytes (at + 1) e in
          let v = a_part _ (goes_term f) bytes w.middle w.two in
          let y = a_part _ (goes_term f) bytes v.middle v.two in
          let (p, q, s) = is_ok (Pair w.first v.first y.first) _ _ y.two in
          ended build_term _ p s (of_three bytes f at 12 b refl ∙ rw (up_is at (omega arith)) (three (built f bytes) 12 (at + 1) _ _ _ _ _ _ (ih (at + 1) _ _ _ w.one) (ih w.middle _ _ _ v.one) (ih v.middle _ _ _ y.one)))
      go k_fst b l e ih =
          let w = a_part _ (goes_term f) bytes (at + 1) e in
          let (p, q, s) = is_ok (Fst w.first) _ _ w.two in
          ended build_term _ p s (of_one bytes f at 13 b refl ∙ rw (up_is at (omega arith)) (one (built f bytes) 13 (at + 1) _ _ (ih (at + 1) _ _ _ w.one)))
      go k_snd b l e ih =
          let w = a_part _ (goes_term f) bytes (at + 1) e in
          let (p, q, s) = is_ok (Snd w.first) _ _ w.two in
          ended build_term _ p s (of_one bytes f at 14 b refl ∙ rw (up_is at (omega arith)) (one (built f bytes) 14 (at + 1) _ _ (ih (at + 1) _ _ _ w.one)))
      -- end of kinds of a term
