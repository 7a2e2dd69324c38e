-- The cells of what is sent are those that the walk counts, and a call on it over words matches the walk's.
use Rattle.std.specs.Prelude.{ℕ, List}
use Rattle.producer.specs.Callees.{Callees}
use Rattle.walk.specs.Syntax.{Interval, I0, I1, Dim, Neg, Meet, Join, Term, Universe, Var, Nat, Zero, Pi, Lam, App, Path, PathLam, PathApp, Sigma, Pair, Fst, Snd, Context, Nil, Cons}
use Rattle.walk.specs.State.{Thing, term, interval, context, of_interval, of_term, of_context, M, count_all}
use Rattle.walk.specs.Walk.Reference as D
use Rattle.link.specs.Lists.{extends_trans}
use Rattle.link.specs.Things.{Cell, cell_lift}
use Rattle.link.specs.Tables.{s_universe, s_var, s_nat, s_zero, s_pi, s_lam, s_app, s_path, s_plam, s_papp, s_sigma, s_pair, s_fst, s_snd, s_i0, s_i1, s_dim, s_neg, s_meet, s_join, s_nil, s_cons}
use Rattle.link.specs.Holds.{Before}
use Rattle.link.specs.Match.{Matches, bind, nothing, counting, split, split_last, starting, Same, Pairs, Returns}
use Rattle.link.specs.Linked.{Linked, Alike}
use Rattle.link.specs.Asked.{build_interval, build_term, build_context, call_ctx, call_universe, call_infer, call_check, call_normalize, call_head_normalize, call_equal}

module _ {o : Before} where
  pub building_interval : {xs : List Thing} (r : Interval) → Matches o xs (build_interval r) (count_all (of_interval r)) (λ n _. Cell n (interval r))
  unfolding build_interval
  -- written by tools/written.py: counting an interval
  building_interval I0 = counting nothing s_i0
  building_interval I1 = counting nothing s_i1
  building_interval (Dim n) = counting nothing s_dim
  building_interval (Neg a) = split_last _ _ (bind (building_interval a) λ _ _ _ _ h. counting nothing (s_neg h))
  building_interval (Meet a b) = split_last _ _ (split _ _ _ (bind (building_interval a) λ _ _ _ _ h. bind (building_interval b) λ _ _ _ e k. counting nothing (s_meet (cell_lift e h) k)))
  building_interval (Join a b) = split_last _ _ (split _ _ _ (bind (building_interval a) λ _ _ _ _ h. bind (building_interval b) λ _ _ _ e k. counting nothing (s_join (cell_lift e h) k)))

  -- end of counting an interval

  pub building_term : {xs : List Thing} (t : Term) → Matches o xs (build_term t) (count_all (of_term t)) (λ n _. Cell n (term t))
  unfolding build_term
  -- written by tools/written.py: counting a term
  building_term (Universe n) = counting nothing s_universe
  building_term (Var n) = counting nothing s_var
  building_term Nat = counting nothing s_nat
  building_term Zero = counting nothing s_zero
  building_term (Pi a b) = split_last _ _ (split _ _ _ (bind (building_term a) λ _ _ _ _ h. bind (building_term b) λ _ _ _ e k. counting nothing (s_pi (cell_lift e h) k)))
  building_term (Lam a b) = split_last _ _ (split _ _ _ (bind (building_term a) λ _ _ _ _ h. bind (building_term b) λ _ _ _ e k. counting nothing (s_lam (cell_lift e h) k)))
  building_term (App a b) = split_last _ _ (split _ _ _ (bind (building_term a) λ _ _ _ _ h. bind (building_term b) λ _ _ _ e k. counting nothing (s_app (cell_lift e h) k)))
  building_term (Path a b c) = split_last _ _ (split _ _ _ (split _ _ _ (bind (building_term a) λ _ _ _ _ h. bind (building_term b) λ _ _ _ e k. bind (building_term c) λ _ _ _ f l. counting nothing (s_path (cell_lift (extends_trans e f) h) (cell_lift f k) l))))
  building_term (PathLam a b) = split_last _ _ (split _ _ _ (bind (building_term a) λ _ _ _ _ h. bind (building_term b) λ _ _ _ e k. counting nothing (s_plam (cell_lift e h) k)))
  building_term (PathApp a b) = split_last _ _ (split _ _ _ (bind (building_term a) λ _ _ _ _ h. bind (building_interval b) λ _ _ _ e k. counting nothing (s_papp (cell_lift e h) k)))
  building_term (Sigma a b) = split_last _ _ (split _ _ _ (bind (building_term a) λ _ _ _ _ h. bind (building_term b) λ _ _ _ e k. counting nothing (s_sigma (cell_lift e h) k)))
  building_term (Pair a b c) = split_last _ _ (split _ _ _ (split _ _ _ (bind (building_term a) λ _ _ _ _ h. bind (building_term b) λ _ _ _ e k. bind (building_term c) λ _ _ _ f l. counting nothing (s_pair (cell_lift (extends_trans e f) h) (cell_lift f k) l))))
  building_term (Fst a) = split_last _ _ (bind (building_term a) λ _ _ _ _ h. counting nothing (s_fst h))
  building_term (Snd a) = split_last _ _ (bind (building_term a) λ _ _ _ _ h. counting nothing (s_snd h))

  -- end of counting a term

  pub building_context : {xs : List Thing} (g : Context) → Matches o xs (build_context g) (count_all (of_context g)) (λ n _. Cell n (context g))
  unfolding build_context
  building_context Nil = counting nothing s_nil
  building_context (Cons a g) = split_last _ _ (split _ _ _ (bind (building_context g) λ _ _ _ _ h. bind (building_term a) λ _ _ _ e k. counting nothing (s_cons k (cell_lift e h))))

module _ {o : Before} {rd : M (Unit {0})} (c : Callees) (d : D.Callees) (L : Linked o rd c d) where
  pub call_infer_matches : {xs : List Thing} (n : ℕ) (g : Context) (t : Term) → Matches o xs (call_infer c n g t) (d.infer n g t) (Returns term)
  unfolding call_infer
  call_infer_matches n g t =
      starting (L.infer_absorbs n g t) L.ready λ _ _.
      split _ _ _ (bind (building_context g) λ _ _ _ _ h. bind (building_term t) λ _ _ _ e k. L.infer n (cell_lift e h) k)

  pub call_check_matches : {xs : List Thing} (n : ℕ) (g : Context) (t y : Term) → Matches o xs (call_check c n g t y) (d.check n g t y) Same
  unfolding call_check
  call_check_matches n g t y =
      starting (L.check_absorbs n g t y) L.ready λ _ _.
      split _ _ _ (split _ _ _ (bind (building_context g) λ _ _ _ _ h. bind (building_term t) λ _ _ _ e k. bind (building_term y) λ _ _ _ f l. L.check n (cell_lift (extends_trans e f) h) (cell_lift f k) l))

  pub call_ctx_matches : {xs : List Thing} (n : ℕ) (g : Context) → Matches o xs (call_ctx c n g) (d.ctx n g) Same
  unfolding call_ctx
  call_ctx_matches n g = starting (L.ctx_absorbs n g) L.ready λ _ _. bind (building_context g) λ _ _ _ _ h. L.ctx n h

  pub call_universe_matches : {xs : List Thing} (n : ℕ) (g : Context) (t : Term) → Matches o xs (call_universe c n g t) (d.universe n g t) (Pairs Alike)
  unfolding call_universe
  call_universe_matches n g t =
      starting (L.universe_absorbs n g t) L.ready λ _ _.
      split _ _ _ (bind (building_context g) λ _ _ _ _ h. bind (building_term t) λ _ _ _ e k. L.universe n (cell_lift e h) k)

  pub call_normalize_matches : {xs : List Thing} (n : ℕ) (g : Context) (t y : Term) → Matches o xs (call_normalize c n g t y) (d.normalize n g t y) (Returns term)
  unfolding call_normalize
  call_normalize_matches n g t y =
      starting (L.normalize_absorbs n g t y) L.ready λ _ _.
      split _ _ _ (split _ _ _ (bind (building_context g) λ _ _ _ _ h. bind (building_term t) λ _ _ _ e k. bind (building_term y) λ _ _ _ f l. L.normalize n (cell_lift (extends_trans e f) h) (cell_lift f k) l))

  pub call_head_normalize_matches : {xs : List Thing} (n : ℕ) (g : Context) (t y : Term) → Matches o xs (call_head_normalize c n g t y) (d.head_normalize n g t y) (Returns term)
  unfolding call_head_normalize
  call_head_normalize_matches n g t y =
      starting (L.head_normalize_absorbs n g t y) L.ready λ _ _.
      split _ _ _ (split _ _ _ (bind (building_context g) λ _ _ _ _ h. bind (building_term t) λ _ _ _ e k. bind (building_term y) λ _ _ _ f l. L.head_normalize n (cell_lift (extends_trans e f) h) (cell_lift f k) l))

  pub call_equal_matches : {xs : List Thing} (n : ℕ) (g : Context) (a b y : Term) → Matches o xs (call_equal c n g a b y) (d.equal n g a b y) Same
  unfolding call_equal
  call_equal_matches n g a b y =
      starting (L.equal_absorbs n g a b y) L.ready λ _ _.
      split _ _ _ (split _ _ _ (split _ _ _ (bind (building_context g) λ _ _ _ _ h. bind (building_term a) λ _ _ _ e k. bind (building_term b) λ _ _ _ f l. bind (building_term y) λ _ _ _ i m.
      let fi = extends_trans f i in L.equal n (cell_lift (extends_trans e fi) h) (cell_lift fi k) (cell_lift i l) m)))
