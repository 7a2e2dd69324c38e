-- At one spot 19 goes before 20: a function past the nesting limit is refused with 19, and its arguments take no cells. No run has such
-- a spot. All functions that one body enters are at one level, so where the limit is met, the first of them meets it; and what the
-- first is lent is what the body's function was lent, or a part of that, which has its cells by then. So the walk in which arguments
-- are counted before the limit is tested, `late`, is the walk: `spot`.
use Rattle.std.specs.Prelude.{ℕ, suc, ◌≤◌, ◌≡◌, refl, List, [], ◌∷◌, ◌++◌, Bool, true, false, length}
use Rattle.std.proofs.Common.{sym, ap, ◌∙◌, arith}
use Rattle.std.proofs.Math.Option.{Option, none, some}
use Rattle.std.proofs.Math.Decide.{dec_lt}
use Rattle.walk.specs.Syntax.{Interval, I0, I1, Dim, Neg, Meet, Join, Term, Universe, Var, Nat, Zero, Pi, Lam, App, Path, PathLam, PathApp, Sigma, Pair, Fst, Snd, Context, Nil, Cons}
use Rattle.walk.specs.State.{Thing, thing?, State, Outcome, done, refused, M, go_on, looking, ◌>>=◌, pure, refuse, from◌get◌or◌, recall, key, of_interval, of_term, of_context, among, with_cell, count, count_all, note, enter}
use Rattle.walk.specs.Walk.Reference.{Op, Shift, Subst, DShift, DSubst, IOp, IShift, ISubst, Step, Callees, of_op, of_iop}
use Rattle.walk.specs.Walk.Numbers.{lt_by, le_by, comparison_body, max_body}
use Rattle.walk.specs.Walk.Intervals.{idim_above, idim, itransform_body, interval_body}
use Rattle.walk.specs.Walk.Endpoints.{two_parts, endpoint_body}
use Rattle.walk.specs.Walk.Transforms.{under_body, tvar_above, tvar, tbinder, tprojection, transform_body}
use Rattle.walk.specs.Walk.Contexts.{dshiftctx_body, new_ctx, ctx_body, lookup_body}
use Rattle.walk.specs.Reader.{Kind}
use Rattle.walk.specs.Walk.Typing.{expose_body, universe_body, check_body, lam_parts, plam_parts, sigma_parts, pair_parts, headed, as_parts, find_binder, find_pair, find, new_infer, infer_body}
use Rattle.walk.specs.Walk.Equality.{beta, along, written, long_end, fst_beta, snd_beta, reduce_body, head_step_body, normal_by, normalize_body, head_normalize_body, equal_body}
use Rattle.walk.specs.Walk.{none_left, entered, one_more, callees_by, callees}
use Rattle.walk.specs.Refusal as R
use Rattle.walk.specs.Sound.Parts.{lam_is, sigma_is}

-- with nothing left each is refused
abbrev refusing : Callees
refusing = none_left one_more

-- with nothing left: the arguments are counted, and only then each is refused
unfoldable pub counted_first : Callees
counted_first = record {
  ctx = λ d g. count_all (of_context g) >>= λ _. refusing.ctx d g;
  infer = λ d g t. count_all (of_context g ++ of_term t) >>= λ _. refusing.infer d g t;
  universe = λ d g t. count_all (of_context g ++ of_term t) >>= λ _. refusing.universe d g t;
  check = λ d g t ty. count_all (of_context g ++ of_term t ++ of_term ty) >>= λ _. refusing.check d g t ty;
  expose = λ d g t ty row. count_all (of_context g ++ of_term t ++ of_term ty) >>= λ _. refusing.expose d g t ty row;
  normalize = λ d g t ty. count_all (of_context g ++ of_term t ++ of_term ty) >>= λ _. refusing.normalize d g t ty;
  equal = λ d g a b ty. count_all (of_context g ++ of_term a ++ of_term b ++ of_term ty) >>= λ _. refusing.equal d g a b ty;
  reduce = λ d g t. count_all (of_context g ++ of_term t) >>= λ _. refusing.reduce d g t;
  head_normalize = λ d g t ty. count_all (of_context g ++ of_term t ++ of_term ty) >>= λ _. refusing.head_normalize d g t ty;
  head_step = λ d g t. count_all (of_context g ++ of_term t) >>= λ _. refusing.head_step d g t;
  lookup = λ g k. count_all (of_context g) >>= λ _. refusing.lookup g k;
  dshiftctx = λ g. count_all (of_context g) >>= λ _. refusing.dshiftctx g;
  transform = λ t op. count_all (of_term t ++ of_op op) >>= λ _. refusing.transform t op;
  itransform = λ r op. count_all (of_interval r ++ of_iop op) >>= λ _. refusing.itransform r op;
  under = λ op dimension. count_all (of_op op) >>= λ _. refusing.under op dimension;
  interval = λ d r. count_all (of_interval r) >>= λ _. refusing.interval d r;
  endpoint = λ r. count_all (of_interval r) >>= λ _. refusing.endpoint r;
  comparison = λ m k strict. refusing.comparison m k strict;
  max = λ m k. refusing.max m k;
  more = refusing.more;
}

unfoldable pub late : ℕ → Callees
late ℕ.zero = counted_first
late (ℕ.suc n) = entered n (late n)

-- what has cells

data Counted (cells : List Thing) : List Thing → Type 0 where
  none_counted : Counted cells []
  one_counted : {x : Thing} {xs : List Thing} → among x cells ≡ true → Counted cells xs → Counted cells (x ∷ xs)

left_of : {cells : List Thing} (xs ys : List Thing) → Counted cells (xs ++ ys) → Counted cells xs
left_of [] ys h = none_counted
left_of (x ∷ xs) ys (one_counted h hs) = one_counted h (left_of xs ys hs)

right_of : {cells : List Thing} (xs ys : List Thing) → Counted cells (xs ++ ys) → Counted cells ys
right_of [] ys h = h
right_of (x ∷ xs) ys (one_counted h hs) = right_of xs ys hs

infixl 30 ◌+++◌
◌+++◌ : {cells xs ys : List Thing} → Counted cells xs → Counted cells ys → Counted cells (xs ++ ys)
none_counted +++ ks = ks
(one_counted h hs) +++ ks = one_counted h (hs +++ ks)

-- cells that are added
record More (cells cells' : List Thing) : Type 0 where
  more : (y : Thing) → among y cells ≡ true → among y cells' ≡ true

among_first : (x : Thing) (cells : List Thing) → among x (x ∷ cells) ≡ true
unfolding among
among_first x cells = go (thing? x x)
  where
    go : (d : Dec (x ≡ x)) → (elim d as (λ _. Bool) [ yes e ↦ true | no ne ↦ among x cells ]) ≡ true
    go (yes e) = refl
    go (no ne) = absurd (ne refl)

among_more : (x : Thing) (cells : List Thing) → More cells (x ∷ cells)
unfolding among
among_more x cells = record { more = λ y h. go y h (thing? y x) }
  where
    go : (y : Thing) → among y cells ≡ true → (d : Dec (y ≡ x)) → (elim d as (λ _. Bool) [ yes e ↦ true | no ne ↦ among y cells ]) ≡ true
    go y h (yes e) = refl
    go y h (no ne) = h

counted_more : {cells cells' xs : List Thing} → More cells cells' → Counted cells xs → Counted cells' xs
counted_more m none_counted = none_counted
counted_more m (one_counted {x = x} h hs) = one_counted (m.more x h) (counted_more m hs)

-- what holds of the state that a count leaves, where it is not refused
abbrev After : (State → Type 0) → Outcome (Unit {0}) → Type 0
After P (done a s) = P s
After P (refused n s) = Unit {0}

record Adds (xs : List Thing) (s s' : State) : Type 0 where
  counted : Counted s'.cells xs
  kept : More s.cells s'.cells

count_adds : (x : Thing) (s : State) → After (Adds (x ∷ []) s) (count x s)
unfolding count with_cell
count_adds x s = go (among x s.cells) refl (dec_lt (length s.cells) s.cell_room)
  where
    go : (b : Bool) → among x s.cells ≡ b → (d : Dec (suc (length s.cells) ≤ s.cell_room)) → After (Adds (x ∷ []) s) (elim b as (λ _. Outcome (Unit {0})) [ true ↦ done tt s | false ↦ elim d as (λ _. Outcome (Unit {0})) [ yes h ↦ done tt (with_cell x s) | no h ↦ refused R.cells s ] ])
    go true e d = record { counted = one_counted e none_counted; kept = record { more = λ y h. h } }
    go false e (yes h) = record { counted = one_counted (among_first x s.cells) none_counted; kept = among_more x s.cells }
    go false e (no h) = tt

count_all_adds : (xs : List Thing) (s : State) → After (Adds xs s) (count_all xs s)
unfolding count_all pure ◌>>=◌ go_on
count_all_adds [] s = record { counted = none_counted; kept = record { more = λ y h. h } }
count_all_adds (x ∷ xs) s = go (λ s'. count_all_adds xs s') (count x s) (count_adds x s)
  where
    on : (s' : State) → Adds (x ∷ []) s s' → (o : Outcome (Unit {0})) → After (Adds xs s') o → After (Adds (x ∷ xs) s) o
    on s' h (done a s'') k = record { counted = counted_more k.kept h.counted +++ k.counted; kept = record { more = λ y e. k.kept.more y (h.kept.more y e) } }
    on s' h (refused n s'') k = tt

    go : ((s' : State) → After (Adds xs s') (count_all xs s')) → (o : Outcome (Unit {0})) → After (Adds (x ∷ []) s) o → After (Adds (x ∷ xs) s) (go_on o (λ _. count_all xs))
    go rest (done a s') h = on s' h (count_all xs s') (rest s')
    go rest (refused n s') h = tt

-- what has cells takes none
known : (x : Thing) (s : State) → among x s.cells ≡ true → count x s ≡ done tt s
unfolding count
known x s e = rw (e, count) refl

all_known : (xs : List Thing) (s : State) → Counted s.cells xs → count_all xs s ≡ done tt s
unfolding count_all pure ◌>>=◌ go_on
all_known [] s h = refl
all_known (x ∷ xs) s (one_counted h hs) = ap (λ o. go_on o (λ _. count_all xs)) (known x s h) ∙ all_known xs s hs

-- Where all of xs has cells, m and e are both refused at once.
record Stops {A : Type 0} (xs : List Thing) (m e : M A) : Type 0 where
  number : ℕ
  stops : (s : State) → m s ≡ refused number s
  alike : (s : State) → Counted s.cells xs → e s ≡ refused number s

-- Where all of xs has cells, e does what m does.
record Alike {A : Type 0} (xs : List Thing) (m e : M A) : Type 0 where
  alike : (s : State) → Counted s.cells xs → e s ≡ m s

stops_here : {A : Type 0} (n : ℕ) (xs ys : List Thing) → ((cells : List Thing) → Counted cells xs → Counted cells ys) → Stops {A = A} xs (refuse n) (count_all ys >>= λ _. refuse n)
unfolding refuse ◌>>=◌ go_on
stops_here {A} n xs ys f = record { number = n; stops = λ s. refl; alike = λ s h. ap (λ o. go_on o (λ _. refuse {A = A} n)) (all_known ys s (f s.cells h)) }

stops_then : {A B : Type 0} {xs : List Thing} {m e : M A} (f g : A → M B) → Stops xs m e → Stops xs (m >>= f) (e >>= g)
unfolding ◌>>=◌ go_on
stops_then f g h = record { number = h.number; stops = λ s. ap (λ o. go_on o f) (h.stops s); alike = λ s k. ap (λ o. go_on o g) (h.alike s k) }

stopped : {A : Type 0} {xs : List Thing} {m e : M A} → Stops xs m e → Alike xs m e
stopped h = record { alike = λ s k. h.alike s k ∙ sym (h.stops s) }

unchanged : {A : Type 0} {xs : List Thing} (m : M A) → Alike xs m m
unchanged m = record { alike = λ s h. refl }

known_or : {A B : Type 0} {xs : List Thing} (o : Option A) (f : A → M B) {z z' : M B} → Alike xs z z' → Alike xs (from o get f or z) (from o get f or z')
unfolding from◌get◌or◌
known_or (some a) f h = unchanged (f a)
known_or none f h = h

looks : {A : Type 0} {xs : List Thing} {f g : State → M A} → ((s : State) → Alike xs (f s) (g s)) → Alike xs (looking f) (looking g)
unfolding looking
looks h = record { alike = λ s k. (h s).alike s k }

enters : {A : Type 0} (n : ℕ) (xs : List Thing) {m e : M A} → Alike xs m e → (s : State) → enter n xs e s ≡ enter n xs m s
unfolding enter ◌>>=◌ go_on note
enters {A} n xs {m} {e} h s = go _ (count_all xs _) (count_all_adds xs _)
  where
    go : (start : State) (o : Outcome (Unit {0})) → After (Adds xs start) o → go_on o (λ _. e) ≡ go_on o (λ _. m)
    go start (done a s') k = h.alike s' k.counted
    go start (refused n s') k = refl

-- parts of what has cells
plus : {cells : List Thing} (xs ys : List Thing) → Counted cells xs → Counted cells ys → Counted cells (xs ++ ys)
plus xs ys h k = h +++ k

part_of : {cells : List Thing} (gs xs ys zs : List Thing) → Counted cells (gs ++ (xs ++ ys ++ zs)) → Counted cells (gs ++ xs)
part_of gs xs ys zs h = plus gs xs (left_of gs (xs ++ ys ++ zs) h) (left_of xs ys (left_of (xs ++ ys) zs (right_of gs (xs ++ ys ++ zs) h)))

front_of : {cells : List Thing} (gs xs ys : List Thing) → Counted cells (gs ++ (xs ++ ys)) → Counted cells (gs ++ xs)
front_of gs xs ys h = plus gs xs (left_of gs (xs ++ ys) h) (left_of xs ys (right_of gs (xs ++ ys) h))

operand_of : {cells : List Thing} (xs ys zs op : List Thing) → Counted cells (xs ++ ys ++ zs ++ op) → Counted cells (xs ++ op)
operand_of xs ys zs op h = plus xs op (left_of xs ys (left_of (xs ++ ys) zs (left_of (xs ++ ys ++ zs) op h))) (right_of (xs ++ ys ++ zs) op h)

first_two : {cells : List Thing} (gs xs ys : List Thing) → Counted cells (gs ++ xs ++ ys) → Counted cells (gs ++ xs)
first_two gs xs ys h = left_of (gs ++ xs) ys h

first_third : {cells : List Thing} (gs xs ys : List Thing) → Counted cells (gs ++ xs ++ ys) → Counted cells (gs ++ ys)
first_third gs xs ys h = plus gs ys (left_of gs xs (left_of (gs ++ xs) ys h)) (right_of (gs ++ xs) ys h)

-- the bodies, each over what its function is lent

expose_alike : (d : ℕ) (g : Context) (t ty : Term) (row : ℕ) → Alike (of_context g ++ of_term t ++ of_term ty) (expose_body refusing d g t ty row) (expose_body counted_first d g t ty row)
unfolding expose_body none_left counted_first
expose_alike d g t ty row = stopped (stops_then _ _ (stops_here _ _ _ λ cells h. first_third (of_context g) (of_term t) (of_term ty) h))

-- a term whose type is taken apart is lent
as_parts_stops : {A : Type 0} {xs : List Thing} (k : Kind) (parts : Term → Option A) (refusal d : ℕ) (g : Context) (t : Term) → ((cells : List Thing) → Counted cells xs → Counted cells (of_context g ++ of_term t)) → Stops xs (as_parts k parts refusal refusing d g t) (as_parts k parts refusal counted_first d g t)
unfolding as_parts headed none_left counted_first
as_parts_stops k parts refusal d g t f = stops_then _ _ (stops_then _ _ (stops_here _ _ _ f))

universe_alike : (d : ℕ) (g : Context) (t : Term) → Alike (of_context g ++ of_term t) (universe_body refusing d g t) (universe_body counted_first d g t)
unfolding universe_body none_left counted_first
universe_alike d g t = stopped (stops_then _ _ (stops_here _ _ _ λ cells h. h))

check_alike : (d : ℕ) (g : Context) (t ty : Term) → Alike (of_context g ++ of_term t ++ of_term ty) (check_body refusing d g t ty) (check_body counted_first d g t ty)
unfolding check_body none_left counted_first
check_alike d g t ty = stopped (stops_then _ _ (stops_here _ _ _ λ cells h. left_of (of_context g ++ of_term t) (of_term ty) h))

normalize_alike : (d : ℕ) (g : Context) (t ty : Term) → Alike (of_context g ++ of_term t ++ of_term ty) (normalize_body refusing d g t ty) (normalize_body counted_first d g t ty)
unfolding normalize_body normal_by none_left counted_first
normalize_alike d g t ty = stopped (stops_then _ _ (stops_here _ _ _ λ cells h. h))

head_normalize_alike : (d : ℕ) (g : Context) (t ty : Term) → Alike (of_context g ++ of_term t ++ of_term ty) (head_normalize_body refusing d g t ty) (head_normalize_body counted_first d g t ty)
unfolding head_normalize_body normal_by none_left counted_first
head_normalize_alike d g t ty = stopped (stops_then _ _ (stops_here _ _ _ λ cells h. h))

head_step_alike : (d : ℕ) (g : Context) (t : Term) → Alike (of_context g ++ of_term t) (head_step_body refusing d g t) (head_step_body counted_first d g t)
unfolding head_step_body none_left counted_first
head_step_alike d g t = stopped (stops_then _ _ (stops_here _ _ _ λ cells h. h))

equal_alike : (d : ℕ) (g : Context) (a b ty : Term) → Alike (of_context g ++ of_term a ++ of_term b ++ of_term ty) (equal_body refusing d g a b ty) (equal_body counted_first d g a b ty)
unfolding equal_body none_left counted_first
equal_alike d g a b ty = stopped (stops_then _ _ (stops_here _ _ _ λ cells h. first_third (of_context g ++ of_term a) (of_term b) (of_term ty) h))

-- what is taken apart, or not
taken_alike : {A X : Type 0} {xs : List Thing} {f g : X → M A} (parts : Option X) (z : M A) → ((x : X) → parts ≡ some x → Alike xs (f x) (g x)) → Alike xs (from parts get f or z) (from parts get g or z)
unfolding from◌get◌or◌
taken_alike none z h = unchanged z
taken_alike (some x) z h = h x refl

taken_stops : {A X : Type 0} {xs : List Thing} {f g : X → M A} (parts : Option X) (n : ℕ) → ((x : X) → parts ≡ some x → Stops xs (f x) (g x)) → Stops xs (from parts get f or refuse n) (from parts get g or refuse n)
unfolding from◌get◌or◌ refuse
taken_stops none n h = record { number = n; stops = λ s. refl; alike = λ s k. refl }
taken_stops (some x) n h = h x refl

beta_alike : (d : ℕ) (g : Context) (a b r : Term) → Alike (of_context g ++ of_term (App (Lam a b) r)) (beta refusing d g a b r) (beta counted_first d g a b r)
unfolding beta none_left counted_first
beta_alike d g a b r = stopped (stops_then _ _ (stops_here _ _ _ λ cells h. part_of (of_context g) (of_term a) (of_term b) _ (part_of (of_context g) (of_term (Lam a b)) (of_term r) _ h)))

-- what is asked for where o is none, and else is a
asked_alike : {A B X : Type 0} {xs : List Thing} (m e : M A) (o : Option X) (a : A) (f g : A → M B) → Alike xs (f a) (g a) → Alike xs (m >>= f) (e >>= g) → Alike xs ((from o get (λ _. pure a) or m) >>= f) ((from o get (λ _. pure a) or e) >>= g)
unfolding from◌get◌or◌ pure ◌>>=◌ go_on
asked_alike m e none a f g h k = k
asked_alike m e (some x) a f g h k = record { alike = λ s c. h.alike s c }

along_alike : {A : Type 0} (d : ℕ) (g : Context) (p : Term) (r : Interval) (u v : A → M (Option Step)) → Alike (of_context g ++ of_term (PathApp p r)) (from none get u or along refusing d g p r) (from none get v or along counted_first d g p r)
unfolding from◌get◌or◌ along
along_alike d g p r u v = stopped (stops_then _ _ (as_parts_stops _ _ _ d g p λ cells h. part_of (of_context g) (of_term p) (of_interval r) _ h))

-- a papp: the end of its interval is asked for first, or its path's type
papp_alike : (d : ℕ) (g : Context) (p : Term) (r : Interval) → Alike (of_context g ++ of_term (PathApp p r)) (reduce_body refusing d g (PathApp p r)) (reduce_body counted_first d g (PathApp p r))
unfolding reduce_body long_end none_left counted_first
papp_alike d g p r =
    let x = along_alike d g p r _ _ in
    asked_alike _ _ (plam_parts p) none _ _ x (asked_alike _ _ (written r) none _ _ x (stopped (stops_then _ _ (stops_here _ _ _ λ cells h. right_of (of_term p) (of_interval r) (left_of (of_term p ++ of_interval r) _ (right_of (of_context g) _ h))))))

reduce_alike : (d : ℕ) (g : Context) (t : Term) → Alike (of_context g ++ of_term t) (reduce_body refusing d g t) (reduce_body counted_first d g t)
unfolding reduce_body fst_beta snd_beta none_left counted_first
reduce_alike d g (Universe l) = unchanged _
reduce_alike d g (Var n) = unchanged _
reduce_alike d g Nat = unchanged _
reduce_alike d g Zero = unchanged _
reduce_alike d g (Pi a b) = unchanged _
reduce_alike d g (Lam a b) = unchanged _
reduce_alike d g (App f r) = taken_alike (lam_parts f) _ λ ab q. rw (lam_is f ab q) (beta_alike d g ab.0 ab.1 r)
reduce_alike d g (Path a b e) = unchanged _
reduce_alike d g (PathLam a b) = unchanged _
reduce_alike d g (PathApp p r) = papp_alike d g p r
reduce_alike d g (Sigma a b) = unchanged _
reduce_alike d g (Pair ty a b) = unchanged _
reduce_alike d g (Fst p) = taken_alike (pair_parts p) _ λ _ _. stopped (stops_then _ _ (as_parts_stops _ _ _ d g p λ cells h. front_of (of_context g) (of_term p) _ h))
reduce_alike d g (Snd p) = taken_alike (pair_parts p) _ λ _ _. stopped (stops_then _ _ (as_parts_stops _ _ _ d g p λ cells h. front_of (of_context g) (of_term p) _ h))

find_stops : (d : ℕ) (g : Context) (t : Term) → Stops (of_context g ++ of_term t) (find refusing d g t) (find counted_first d g t)
unfolding find find_binder find_pair none_left counted_first
find_stops d g (Universe l) = stops_then _ _ (stops_here _ _ _ λ cells h. left_of (of_context g) _ h)
find_stops d g (Var n) = stops_then _ _ (stops_here _ _ _ λ cells h. left_of (of_context g) _ h)
find_stops d g Nat = stops_then _ _ (stops_here _ _ _ λ cells h. left_of (of_context g) _ h)
find_stops d g Zero = stops_then _ _ (stops_here _ _ _ λ cells h. left_of (of_context g) _ h)
find_stops d g (Pi a b) = stops_then _ _ (stops_here _ _ _ λ cells h. part_of (of_context g) (of_term a) (of_term b) _ h)
find_stops d g (Lam a b) = stops_then _ _ (stops_here _ _ _ λ cells h. part_of (of_context g) (of_term a) (of_term b) _ h)
find_stops d g (App f a) = stops_then _ _ (as_parts_stops _ _ _ d g f λ cells h. part_of (of_context g) (of_term f) (of_term a) _ h)
find_stops d g (Path a b e) = stops_then _ _ (stops_here _ _ _ λ cells h. left_of (of_context g) _ h)
find_stops d g (PathLam a b) = stops_then _ _ (stops_here _ _ _ λ cells h. left_of (of_context g) _ h)
find_stops d g (PathApp p r) = stops_then _ _ (as_parts_stops _ _ _ d g p λ cells h. part_of (of_context g) (of_term p) (of_interval r) _ h)
find_stops d g (Sigma a b) = stops_then _ _ (stops_here _ _ _ λ cells h. part_of (of_context g) (of_term a) (of_term b) _ h)
find_stops d g (Pair ty a b) = taken_stops (sigma_parts ty) _ λ of q. rw (sigma_is ty of q) (stops_then _ _ (stops_here _ _ _ λ cells h. part_of (of_context g) (of_term of.0) (of_term of.1) _ (front_of (of_context g) (of_term (Sigma of.0 of.1)) (of_term a) (part_of (of_context g) (of_term (Sigma of.0 of.1) ++ of_term a) (of_term b) _ h))))
find_stops d g (Fst p) = stops_then _ _ (as_parts_stops _ _ _ d g p λ cells h. front_of (of_context g) (of_term p) _ h)
find_stops d g (Snd p) = stops_then _ _ (as_parts_stops _ _ _ d g p λ cells h. front_of (of_context g) (of_term p) _ h)

infer_alike : (d : ℕ) (g : Context) (t : Term) → Alike (of_context g ++ of_term t) (infer_body refusing d g t) (infer_body counted_first d g t)
unfolding infer_body new_infer
infer_alike d g t = looks λ s. known_or (recall (key d g t) s.memory) _ (stopped (stops_then _ _ (find_stops d g t)))

new_ctx_alike : (d : ℕ) (g : Context) → Alike (of_context g) (new_ctx refusing d g) (new_ctx counted_first d g)
unfolding new_ctx none_left counted_first
new_ctx_alike d Nil = unchanged _
new_ctx_alike d (Cons a g) = stopped (stops_then _ _ (stops_here _ _ _ λ cells h. left_of (of_context g) (of_term a) (left_of (of_context g ++ of_term a) _ h)))

ctx_alike : (d : ℕ) (g : Context) → Alike (of_context g) (ctx_body refusing d g) (ctx_body counted_first d g)
unfolding ctx_body
ctx_alike d g = looks λ s. known_or _ _ (new_ctx_alike d g)

dshiftctx_alike : (g : Context) → Alike (of_context g) (dshiftctx_body refusing g) (dshiftctx_body counted_first g)
unfolding dshiftctx_body none_left counted_first
dshiftctx_alike Nil = unchanged _
dshiftctx_alike (Cons a g) = stopped (stops_then _ _ (stops_here _ _ _ λ cells h. left_of (of_context g) (of_term a) (left_of (of_context g ++ of_term a) _ h)))

lookup_alike : (g : Context) (k : ℕ) → Alike (of_context g) (lookup_body refusing g k) (lookup_body counted_first g k)
unfolding lookup_body none_left counted_first
lookup_alike Nil k = unchanged _
lookup_alike (Cons a g) ℕ.zero = stopped (stops_then _ _ (stops_here _ _ _ λ cells h. plus (of_term a) [] (right_of (of_context g) (of_term a) (left_of (of_context g ++ of_term a) _ h)) none_counted))
lookup_alike (Cons a g) (ℕ.suc k) = stopped (stops_then _ _ (stops_here _ _ _ λ cells h. left_of (of_context g) (of_term a) (left_of (of_context g ++ of_term a) _ h)))

-- a comparison is lent nothing that takes a cell
lt_by_same : (m n : ℕ) → lt_by counted_first m n ≡ lt_by refusing m n
unfolding lt_by counted_first
lt_by_same m ℕ.zero = refl
lt_by_same ℕ.zero (ℕ.suc n) = refl
lt_by_same (ℕ.suc m) (ℕ.suc n) = refl

le_by_same : (m n : ℕ) → le_by counted_first m n ≡ le_by refusing m n
unfolding le_by counted_first
le_by_same ℕ.zero n = refl
le_by_same (ℕ.suc m) ℕ.zero = refl
le_by_same (ℕ.suc m) (ℕ.suc n) = refl

comparison_alike : (m n : ℕ) (strict : Bool) → Alike [] (comparison_body refusing m n strict) (comparison_body counted_first m n strict)
unfolding comparison_body
comparison_alike m n true = rw (lt_by_same m n) (unchanged _)
comparison_alike m n false = rw (le_by_same m n) (unchanged _)

max_alike : (m n : ℕ) → Alike [] (max_body refusing m n) (max_body counted_first m n)
unfolding max_body counted_first
max_alike ℕ.zero n = unchanged _
max_alike (ℕ.suc m) ℕ.zero = unchanged _
max_alike (ℕ.suc m) (ℕ.suc n) = unchanged _

interval_alike : (d : ℕ) (r : Interval) → Alike (of_interval r) (interval_body refusing d r) (interval_body counted_first d r)
unfolding interval_body none_left counted_first
interval_alike d I0 = unchanged _
interval_alike d I1 = unchanged _
interval_alike d (Dim n) = unchanged _
interval_alike d (Neg r) = stopped (stops_then _ _ (stops_here _ _ _ λ cells h. left_of (of_interval r) _ h))
interval_alike d (Meet r q) = stopped (stops_then _ _ (stops_here _ _ _ λ cells h. left_of (of_interval r) (of_interval q) (left_of (of_interval r ++ of_interval q) _ h)))
interval_alike d (Join r q) = stopped (stops_then _ _ (stops_here _ _ _ λ cells h. left_of (of_interval r) (of_interval q) (left_of (of_interval r ++ of_interval q) _ h)))

endpoint_alike : (r : Interval) → Alike (of_interval r) (endpoint_body refusing r) (endpoint_body counted_first r)
unfolding endpoint_body two_parts none_left counted_first
endpoint_alike I0 = unchanged _
endpoint_alike I1 = unchanged _
endpoint_alike (Dim n) = unchanged _
endpoint_alike (Neg r) = stopped (stops_then _ _ (stops_here _ _ _ λ cells h. left_of (of_interval r) _ h))
endpoint_alike (Meet r q) = stopped (stops_then _ _ (stops_here _ _ _ λ cells h. left_of (of_interval r) (of_interval q) (left_of (of_interval r ++ of_interval q) _ h)))
endpoint_alike (Join r q) = stopped (stops_then _ _ (stops_here _ _ _ λ cells h. left_of (of_interval r) (of_interval q) (left_of (of_interval r ++ of_interval q) _ h)))

idim_same : (n : ℕ) (op : IOp) → idim counted_first n op ≡ idim refusing n op
unfolding idim idim_above counted_first
idim_same n (IShift k) = refl
idim_same ℕ.zero (ISubst k q) = refl
idim_same (ℕ.suc n) (ISubst k q) = refl

itransform_alike : (r : Interval) (op : IOp) → Alike (of_interval r ++ of_iop op) (itransform_body refusing r op) (itransform_body counted_first r op)
unfolding itransform_body none_left counted_first
itransform_alike I0 op = unchanged _
itransform_alike I1 op = unchanged _
itransform_alike (Dim n) op = rw (idim_same n op) (unchanged _)
itransform_alike (Neg r) op = stopped (stops_then _ _ (stops_here _ _ _ λ cells h. plus (of_interval r) (of_iop op) (left_of (of_interval r) _ (left_of (of_interval (Neg r)) (of_iop op) h)) (right_of (of_interval (Neg r)) (of_iop op) h)))
itransform_alike (Meet r q) op = stopped (stops_then _ _ (stops_here _ _ _ λ cells h. operand_of (of_interval r) (of_interval q) _ (of_iop op) h))
itransform_alike (Join r q) op = stopped (stops_then _ _ (stops_here _ _ _ λ cells h. operand_of (of_interval r) (of_interval q) _ (of_iop op) h))

under_alike : (op : Op) (dimension : Bool) → Alike (of_op op) (under_body refusing op dimension) (under_body counted_first op dimension)
unfolding under_body none_left counted_first
under_alike (Shift k) false = unchanged _
under_alike (Shift k) true = unchanged _
under_alike (Subst k r) false = stopped (stops_then _ _ (stops_here _ _ _ λ cells h. plus (of_term r) [] h none_counted))
under_alike (Subst k r) true = stopped (stops_then _ _ (stops_here _ _ _ λ cells h. plus (of_term r) [] h none_counted))
under_alike (DShift k) false = unchanged _
under_alike (DShift k) true = unchanged _
under_alike (DSubst k r) false = unchanged _
under_alike (DSubst k r) true = stopped (stops_then _ _ (stops_here _ _ _ λ cells h. plus (of_interval r) [] h none_counted))

tvar_same : (n : ℕ) (op : Op) → tvar counted_first n op ≡ tvar refusing n op
unfolding tvar tvar_above counted_first
tvar_same n (Shift k) = refl
tvar_same ℕ.zero (Subst k r) = refl
tvar_same (ℕ.suc n) (Subst k r) = refl
tvar_same n (DShift k) = refl
tvar_same n (DSubst k r) = refl

transform_alike : (t : Term) (op : Op) → Alike (of_term t ++ of_op op) (transform_body refusing t op) (transform_body counted_first t op)
unfolding transform_body tbinder tprojection none_left counted_first
transform_alike (Universe l) op = unchanged _
transform_alike (Var n) op = rw (tvar_same n op) (unchanged _)
transform_alike Nat op = unchanged _
transform_alike Zero op = unchanged _
transform_alike (Pi a b) op = stopped (stops_then _ _ (stops_here _ _ _ λ cells h. operand_of (of_term a) (of_term b) _ (of_op op) h))
transform_alike (Lam a b) op = stopped (stops_then _ _ (stops_here _ _ _ λ cells h. operand_of (of_term a) (of_term b) _ (of_op op) h))
transform_alike (App f a) op = stopped (stops_then _ _ (stops_here _ _ _ λ cells h. operand_of (of_term f) (of_term a) _ (of_op op) h))
transform_alike (Path a b e) op = stopped (stops_then _ _ (stops_here _ _ _ λ cells h. right_of (of_term (Path a b e)) (of_op op) h))
transform_alike (PathLam a b) op = stopped (stops_then _ _ (stops_here _ _ _ λ cells h. right_of (of_term (PathLam a b)) (of_op op) h))
transform_alike (PathApp p r) op = stopped (stops_then _ _ (stops_here _ _ _ λ cells h. operand_of (of_term p) (of_interval r) _ (of_op op) h))
transform_alike (Sigma a b) op = stopped (stops_then _ _ (stops_here _ _ _ λ cells h. operand_of (of_term a) (of_term b) _ (of_op op) h))
transform_alike (Pair ty a b) op = stopped (stops_then _ _ (stops_here _ _ _ λ cells h. first_third (of_term ty) (of_term a) (of_op op) (operand_of (of_term ty ++ of_term a) (of_term b) _ (of_op op) h)))
transform_alike (Fst p) op = stopped (stops_then _ _ (stops_here _ _ _ λ cells h. first_third (of_term p) _ (of_op op) h))
transform_alike (Snd p) op = stopped (stops_then _ _ (stops_here _ _ _ λ cells h. first_third (of_term p) _ (of_op op) h))

-- with one entry left
late_one : entered 0 counted_first ≡ entered 0 refusing
unfolding entered counted_first none_left
late_one = λ i. record {
  ctx = λ d g s. enters 0 _ (ctx_alike d g) s i;
  infer = λ d g t s. enters 0 _ (infer_alike d g t) s i;
  universe = λ d g t s. enters 0 _ (universe_alike d g t) s i;
  check = λ d g t ty s. enters 0 _ (check_alike d g t ty) s i;
  expose = λ d g t ty row s. enters 0 _ (expose_alike d g t ty row) s i;
  normalize = λ d g t ty s. enters 0 _ (normalize_alike d g t ty) s i;
  equal = λ d g a b ty s. enters 0 _ (equal_alike d g a b ty) s i;
  reduce = λ d g t s. enters 0 _ (reduce_alike d g t) s i;
  head_normalize = λ d g t ty s. enters 0 _ (head_normalize_alike d g t ty) s i;
  head_step = λ d g t s. enters 0 _ (head_step_alike d g t) s i;
  lookup = λ g k s. enters 0 _ (lookup_alike g k) s i;
  dshiftctx = λ g s. enters 0 _ (dshiftctx_alike g) s i;
  transform = λ t op s. enters 0 _ (transform_alike t op) s i;
  itransform = λ r op s. enters 0 _ (itransform_alike r op) s i;
  under = λ op dimension s. enters 0 _ (under_alike op dimension) s i;
  interval = λ d r s. enters 0 _ (interval_alike d r) s i;
  endpoint = λ r s. enters 0 _ (endpoint_alike r) s i;
  comparison = λ m k strict s. enters 0 _ (comparison_alike m k strict) s i;
  max = λ m k s. enters 0 _ (max_alike m k) s i;
  more = one_more;
}

-- under every limit that a run can have
pub spot : (limit : ℕ) → 1 ≤ limit → late limit ≡ callees limit
unfolding late callees callees_by
spot ℕ.zero l = absurd (omega (arith, l))
spot (ℕ.suc ℕ.zero) l = late_one
spot (ℕ.suc (ℕ.suc n)) l = ap (entered (suc n)) (spot (suc n) (omega arith))
