-- The machine's run, from calls that were read: the cells of what is sent, each call, and its four answer words. Assumes nothing.
use Rattle.std.specs.Prelude.{ℕ, suc, ◌+◌, ◌*◌, ◌-◌, ◌/◌, min, List, [], ◌∷◌, ◌++◌, Bool, true, false, length, set, drop}
use Rattle.ast.specs.Cells.{quote_of}
use Rattle.producer.specs.Machine.{Machine, machine, new_state, fresh, Result, is, not, W, ◌>>=◌, make_universe, make_var, make_nat, make_zero, make_pi, make_lam, make_app, make_path, make_plam, make_papp, make_sigma, make_pair, make_fst, make_snd, make_i0, make_i1, make_dim, make_neg, make_meet, make_join, make_nil, make_cons}
use Rattle.producer.specs.Callees.{Callees}
use Rattle.producer.specs.Calls.{callees}
use Rattle.walk.specs.Syntax.{Interval, I0, I1, Dim, Neg, Meet, Join, Term, Universe, Var, Nat, Zero, Pi, Lam, App, Path, PathLam, PathApp, Sigma, Pair, Fst, Snd, Context, Nil, Cons}
use Rattle.walk.specs.Reader.{Code, c_context, c_universe, c_infer, c_check, c_normalise, c_equal, c_many, c_headwise, lists_types, Call}
use Rattle.walk.specs.Refusal as Refusal
use Rattle.walk.specs.Limits.{Sized, fits, scope_over, size_over, index_over, size_call}
use Rattle.walk.specs.Run.{scope_of, nth}

-- the cells of what is sent, parts first
unfoldable pub build_interval : Interval → W ℕ
-- written by tools/written.py: cells of an interval
build_interval I0 = make_i0
build_interval I1 = make_i1
build_interval (Dim n) = make_dim n
build_interval (Neg a) = build_interval a >>= λ x. make_neg x
build_interval (Meet a b) = build_interval a >>= λ x. build_interval b >>= λ y. make_meet x y
build_interval (Join a b) = build_interval a >>= λ x. build_interval b >>= λ y. make_join x y

-- end of cells of an interval

unfoldable pub build_term : Term → W ℕ
-- written by tools/written.py: cells of a term
build_term (Universe n) = make_universe n
build_term (Var n) = make_var n
build_term Nat = make_nat
build_term Zero = make_zero
build_term (Pi a b) = build_term a >>= λ x. build_term b >>= λ y. make_pi x y
build_term (Lam a b) = build_term a >>= λ x. build_term b >>= λ y. make_lam x y
build_term (App a b) = build_term a >>= λ x. build_term b >>= λ y. make_app x y
build_term (Path a b c) = build_term a >>= λ x. build_term b >>= λ y. build_term c >>= λ z. make_path x y z
build_term (PathLam a b) = build_term a >>= λ x. build_term b >>= λ y. make_plam x y
build_term (PathApp a b) = build_term a >>= λ x. build_interval b >>= λ y. make_papp x y
build_term (Sigma a b) = build_term a >>= λ x. build_term b >>= λ y. make_sigma x y
build_term (Pair a b c) = build_term a >>= λ x. build_term b >>= λ y. build_term c >>= λ z. make_pair x y z
build_term (Fst a) = build_term a >>= λ x. make_fst x
build_term (Snd a) = build_term a >>= λ x. make_snd x

-- end of cells of a term

unfoldable pub build_context : Context → W ℕ
build_context Nil = make_nil
build_context (Cons a g) = build_context g >>= λ h. build_term a >>= λ x. make_cons x h

-- a call on what is sent: once it is entered, its arguments are made

unfoldable pub call_ctx : Callees → ℕ → Context → W ℕ
call_ctx c d g = c.ready >>= λ _. build_context g >>= λ h. c.ctx d h

unfoldable pub call_universe : Callees → ℕ → Context → Term → W (ℕ × ℕ)
call_universe c d g t = c.ready >>= λ _. build_context g >>= λ h. build_term t >>= λ x. c.universe d h x

unfoldable pub call_infer : Callees → ℕ → Context → Term → W (ℕ × ℕ)
call_infer c d g t = c.ready >>= λ _. build_context g >>= λ h. build_term t >>= λ x. c.infer d h x

unfoldable pub call_check : Callees → ℕ → Context → Term → Term → W ℕ
call_check c d g t ty = c.ready >>= λ _. build_context g >>= λ h. build_term t >>= λ x. build_term ty >>= λ y. c.check d h x y

unfoldable pub call_normalize : Callees → ℕ → Context → Term → Term → W (ℕ × ℕ)
call_normalize c d g t ty = c.ready >>= λ _. build_context g >>= λ h. build_term t >>= λ x. build_term ty >>= λ y. c.normalize d h x y

unfoldable pub call_head_normalize : Callees → ℕ → Context → Term → Term → W (ℕ × ℕ)
call_head_normalize c d g t ty = c.ready >>= λ _. build_context g >>= λ h. build_term t >>= λ x. build_term ty >>= λ y. c.head_normalize d h x y

unfoldable pub call_equal : Callees → ℕ → Context → Term → Term → Term → W ℕ
call_equal c d g a b ty = c.ready >>= λ _. build_context g >>= λ h. build_term a >>= λ x. build_term b >>= λ y. build_term ty >>= λ z. c.equal d h x y z

-- the four words of an answer
pub record Said : Type 0 where
  pub number : ℕ
  pub row : ℕ
  pub result : ℕ
  pub deepest : ℕ

unfoldable pub told : {C : Type 0} → (C → ℕ) → (C → Machine → ℕ) → Result C → Said × Machine
told row result (is c w) = (record { number = 0; row = row c; result = result c w; deepest = w.state.deepest }, w)
told row result (not n w) = (record { number = n; row = 4294967295; result = 0; deepest = w.state.deepest }, w)

-- a result that is a term is the lowest cell with its quote
abbrev pub lowest_of : ℕ × ℕ → Machine → ℕ
lowest_of out w = quote_of w.cells out.0

-- a call that is not let in
abbrev pub turned : ℕ → Said
turned n = record { number = n; row = 4294967295; result = 0; deepest = 0 }

unfoldable pub ask : Callees → Code → ℕ → Context → List Term → Machine → Said × Machine
ask c c_context d g ts w = told (λ row. row) (λ row w. 0) (call_ctx c d g w)
ask c c_universe d g ts w = told (λ out. out.1) (λ out w. out.0) (call_universe c d g (nth ts 0) w)
ask c c_infer d g ts w = told (λ out. out.1) lowest_of (call_infer c d g (nth ts 0) w)
ask c c_check d g ts w = told (λ row. row) (λ row w. 0) (call_check c d g (nth ts 0) (nth ts 1) w)
ask c c_normalise d g ts w = told (λ out. out.1) lowest_of (call_normalize c d g (nth ts 0) (nth ts 1) w)
ask c c_equal d g ts w = told (λ row. row) (λ row w. 0) (call_equal c d g (nth ts 0) (nth ts 1) (nth ts 2) w)
ask c c_many d g ts w = (turned Refusal.count, w)
ask c c_headwise d g ts w = told (λ out. out.1) lowest_of (call_head_normalize c d g (nth ts 0) (nth ts 1) w)

-- deepest starts from 0
unfoldable pub afresh : Machine → Machine
afresh w = machine w.rows w.cells (fresh w.state)

unfoldable pub ask_sized : Sized → Call → Machine → Said × Machine
ask_sized scope_over call w = (turned Refusal.scope, w)
ask_sized size_over call w = (turned Refusal.size, w)
ask_sized index_over call w = (turned Refusal.index, w)
ask_sized (fits n) call w = ask (callees w.state.limit) call.code call.dims (scope_of Nil call.types) call.terms (afresh w)

-- of many types, where their count is wrong
unfoldable pub ask_counted : Bool → Call → Machine → Said × Machine
ask_counted true call w = (turned Refusal.count, w)
ask_counted false call w = ask_sized (size_call call) call w

abbrev pub ask_call : Call → Machine → Said × Machine
ask_call call w = ask_counted (lists_types call.code) call w

-- So many rows, from one on, were added by a call: their word 18 is its number.
unfoldable pub marked : ℕ → List ℕ → (from call : ℕ) → List ℕ
marked ℕ.zero R from call = R
marked (ℕ.suc n) R from call = marked n (set R (from * 24 + 18) call) (suc from) call

-- what a call leaves, of so many rows before it
abbrev pub with_marks : (call before : ℕ) → Machine → Machine
with_marks call before w = machine (marked (w.state.rows - before) w.rows before call) w.cells w.state

-- Each call gets what the one before left. The first of them has a number, and the others go on from it.
unfoldable pub ask_from : ℕ → List Call → Machine → List Said × Machine
ask_from n [] w = ([], w)
ask_from n (call ∷ calls) w =
    let (said, w') = ask_call call w in
    let (saids, w'') = ask_from (suc n) calls (with_marks n w.state.rows w') in
    (said ∷ saids, w'')

abbrev pub ask_all : List Call → Machine → List Said × Machine
ask_all calls w = ask_from 0 calls w

-- from no rows and no cells, whatever the slices hold
unfoldable pub start : ℕ → List ℕ → List ℕ → Machine
start limit rows cells = machine rows cells (new_state limit (min 50000 (length rows / 24)) (min 4294967295 (length cells / 8)))

-- the words of the answers, and a slice that they are written over
unfoldable pub four_words : List Said → List ℕ
four_words [] = []
four_words (a ∷ answers) = a.number ∷ a.row ∷ a.result ∷ a.deepest ∷ four_words answers

unfoldable pub written_over : List ℕ → List ℕ → List ℕ
written_over ws old = ws ++ drop (length ws) old
