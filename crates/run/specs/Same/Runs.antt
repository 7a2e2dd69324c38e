-- The run over its bytes is the run over the calls that are read from them: `run_is`.
use Rattle.std.specs.Prelude.{ℕ, suc, ◌+◌, ◌*◌, ◌-◌, ◌/◌, ◌%◌, ◌≤◌, ◌<◌, min, List, [], ◌∷◌, ◌++◌, ◌≡◌, Bool, ◌&&◌, ◌||◌, leb, drop, Err}
use Rattle.std.proofs.Math.Path.{refl}
use Rattle.std.proofs.Common.{sym, ◌∙◌, arith, ltb-true, ltb-false, lt-ltb, ne_eqb}
use Rattle.std.proofs.Math.Numerals.{sub-one}
use Rattle.std.proofs.Math.Bool.{true, false}
use Rattle.std.proofs.Math.Dec.{ltb}
use Rattle.std.proofs.Math.ListN.{length, length-append}
use Rattle.std.proofs.lemmas.List.Edits.{sets}
use Rattle.ast.specs.Words.{ifb, up}
use Rattle.producer.specs.Machine.{Machine, machine, Result, is, not, W, next as on, ◌>>=◌, give, lowest}
use Rattle.producer.specs.Callees.{Callees}
use Rattle.producer.specs.Calls.{callees}
use Rattle.walk.specs.Refusal as Refusal
use Rattle.walk.specs.Syntax.{Term, Context, Nil}
use Rattle.walk.specs.Reader.{Read, got, bad, Code, c_context, c_universe, c_infer, c_check, c_normalise, c_equal, c_many, c_headwise, lists_types, Call, check_of, Sent, checks_of, calls_of, all_calls, read_run}
use Rattle.walk.specs.Limits.{Sized, fits, scope_over, size_over, index_over, size_call}
use Rattle.walk.specs.Run.{scope_of, Ran, run_read, run}
use Rattle.walk.specs.Run as R
use Rattle.syntax.specs.declared.limits.Unfit.TheVariants.{Refused}
use Rattle.syntax.specs.Told.{term_at, call_at, head_in, calls_read, sized, size_of, size_in, size_draft, size_draft_in, told as scan_told, unless_long}
use Rattle.syntax.specs.Sent.{counted_by, sent_in}
use Rattle.syntax.specs.Heads.{many_number, is_many}
use Rattle.syntax.specs.Kinds.{code_is}
use Rattle.syntax.specs.Ends.{run_fault}
use Rattle.syntax.specs.Calls.{true_false, TermsAt, no_terms, next_term, CallAt, SentAt, CallsAt, no_more, next_call, few_calls, RunIs, run_is as read_is}
use Rattle.link.specs.Lists.{written}
use Rattle.link.specs.Asked.{Said, lowest_of, ask, ask_sized, ask_counted, ask_call, with_marks, ask_from, ask_all, afresh, start, four_words, written_over}
use Rattle.link.specs.Asked as L
use Rattle.link.proofs.Words.{said_calls}
use Rattle.run.specs.Call.{row_alone, row_first, row_quoted, called, head_bytes}
use Rattle.ast.specs.declared.refusals.Refusal.TheVariants.{Count}
use Rattle.ast.specs.Refusals.{refusal_number}
use Rattle.run.specs.declared.entry.Spot.{Spot}
use Rattle.run.specs.Build.{byte_at}
use Rattle.run.specs.Run.{low_of, at_most, started, first_spot, spot_after, Told, refused_of, told, tight, planned_alone, planned_type, planned_checks, planned_by, planned_many, planned, turned_by, turned_as, turned, played, Ended, end_run, refused_run, read_run as ended_read, run_by, run_of}
use Rattle.run.specs.Same.Terms.{up_is}
use Rattle.run.specs.Same.Calls.{by_call, called_is, draft_is}

-- what a call answers and leaves, with where the next one stands
abbrev told_of : Said × Machine → Spot → Told
told_of (a, w) next = record { number = a.number; row = a.row; result = a.result; deepest = a.deepest; next = next; left = w }

row_told : (next : Spot) (m : W ℕ) (w : Machine) → told (row_alone m w) next ≡ told_of (L.told (λ row. row) (λ row w. 0) (m w)) next
unfolding row_alone told L.told ◌>>=◌ on give
row_told next m w = go (m w)
  where
    go : (r : Result ℕ) → told (on r (λ row. λ w. is (row, 0) w)) next ≡ told_of (L.told (λ row. row) (λ row w. 0) r) next
    go (is a w) = refl
    go (not n w) = refl

-- a row with its result, or with the lowest cell that has the result's quote
result_told : (next : Spot) (f : ℕ × ℕ → Machine → ℕ) (m : W (ℕ × ℕ)) (w : Machine) → told ((m >>= λ out. λ w. is (out.1, f out w) w) w) next ≡ told_of (L.told (λ out. out.1) f (m w)) next
unfolding told L.told ◌>>=◌ on
result_told next f m w = go (m w)
  where
    go : (r : Result (ℕ × ℕ)) → told (on r (λ out. λ w. is (out.1, f out w) w)) next ≡ told_of (L.told (λ out. out.1) f r) next
    go (is a w) = refl
    go (not n w) = refl

asked : (next : Spot) (c : Callees) (code : Code) → lists_types code ≡ false → (d : ℕ) (g : Context) (ts : List Term) (w : Machine) → told (by_call c code d g ts w) next ≡ told_of (ask c code d g ts w) next
unfolding by_call ask row_first row_quoted lowest give
asked next c c_context f d g ts w = row_told next _ w
asked next c c_universe f d g ts w = result_told next (λ out w. out.0) _ w
asked next c c_infer f d g ts w = result_told next lowest_of _ w
asked next c c_check f d g ts w = row_told next _ w
asked next c c_normalise f d g ts w = result_told next lowest_of _ w
asked next c c_equal f d g ts w = row_told next _ w
asked next c c_many f d g ts w = true_false f
asked next c c_headwise f d g ts w = result_told next lowest_of _ w

low_is : (n : ℕ) → n < 4294967296 → low_of n ≡ n
unfolding low_of
low_is n l = omega arith

abbrev by_itself : ℕ → Spot
by_itself at = record { at = at; ty = at; left = 0 }

-- whether so many types are a check each
abbrev right : ℕ → Bool
right n = leb 1 n && leb n 16

module _ (bytes : List ℕ) (short : length bytes ≤ 65536) where
  roomy : tight 131073 bytes ≡ false
  roomy = go (tight 131073 bytes) refl
    where
      go : (b : Bool) → tight 131073 bytes ≡ b → b ≡ false
      go true e = absurd (omega (arith, ltb-true 131073 (2 * length bytes + 1) e))
      go false e = refl

  -- one call, by its size, with its type at an offset
  sized_is : (at ty next left : ℕ) (head call : Call) → ((n : ℕ) → size_call call ≡ fits n → (spot : Spot) (w : Machine) → told (called bytes at ty (head_bytes (head_in head.code head.dims (length head.types))) (afresh w)) spot ≡ told_of (ask (callees w.state.limit) call.code call.dims (scope_of Nil call.types) call.terms (afresh w)) spot) → at < 4294967296 → ty < 4294967296 → (w : Machine) → turned_by (sized (size_call call) head next) bytes at ty left w ≡ told_of (ask_sized (size_call call) call w) (spot_after at next left)
  unfolding turned_by sized ask_sized refused_of refusal_number afresh
  sized_is at ty next left head call walked l k w = go (size_call call) refl
    where
      go : (z : Sized) → size_call call ≡ z → turned_by (sized z head next) bytes at ty left w ≡ told_of (ask_sized z call w) (spot_after at next left)
      go scope_over e = refl
      go size_over e = refl
      go index_over e = refl
      go (fits n) e = rw (low_is at l, low_is ty k) (walked n e (spot_after at next left) w)

  -- a call by itself
  alone_is : (at : ℕ) {call : Call} {next : ℕ} → CallAt bytes at call next → lists_types call.code ≡ false → (w : Machine) → turned_as (planned_alone (size_in (tight 131073 bytes) (call_at bytes at)) at) bytes at w ≡ told_of (ask_call call w) (spot_after at next 0)
  unfolding planned_alone size_in size_of ask_counted afresh
  alone_is at {call} {next} C f w =
      let l : at < 4294967296 = omega (arith, C.far, C.inside) in
      rw (C.reads, roomy, f)
      (sized_is at at next 0 call call (λ n e spot w. unfold called in rw (called_is bytes short (afresh w).state.limit at at C f e) (asked spot (callees (afresh w).state.limit) call.code f call.dims (scope_of Nil call.types) call.terms (afresh w))) l l w)

  -- a check of a call with many types
  check_is : (at ty n : ℕ) {call : Call} {middle : ℕ} {u : Term} {end : ℕ} → CallAt bytes at call middle → lists_types call.code ≡ true → TermsAt bytes ty (u ∷ []) end → ty < length bytes → term_at bytes ty ≡ got u (drop end bytes) end → (w : Machine) → turned_as (planned_type 131073 bytes at ty n) bytes at w ≡ told_of (ask_call (check_of call u) w) (spot_after at end (n - 1))
  unfolding planned_type size_draft_in size_draft ask_counted afresh
  check_is at ty n {call} {middle} {u} {end} C f U h e w =
      rw (C.reads, roomy, e)
      (sized_is at ty end (n - 1) call (check_of call u) (λ m z spot w. unfold called in rw (draft_is bytes short (afresh w).state.limit at ty C (is_many call.code f) U z) (asked spot (callees (afresh w).state.limit) c_check refl call.dims (scope_of Nil call.types) (call.terms ++ u ∷ []) (afresh w))) (omega (arith, C.far, C.inside)) (omega arith) w)

  -- all of them
  abbrev Plays : List Call → Spot → ℕ → Machine → List ℕ → Type 0
  Plays calls spot done w A = played (length calls) 131073 bytes spot done w A ≡ record { left = (ask_from done calls w).1; answers = sets A (done * 4) (four_words (ask_from done calls w).0) }

  one_more : (left : ℕ) (spot : Spot) (done : ℕ) (w : Machine) (A : List ℕ) (t : Told) → t ≡ turned 131073 bytes spot w → played (suc left) 131073 bytes spot done w A ≡ played left 131073 bytes t.next (up done) (with_marks done w.state.rows t.left) (sets A (done * 4) (t.number ∷ t.row ∷ t.result ∷ t.deepest ∷ []))
  unfolding played
  one_more left spot done w A t e = rw e

  -- one, and then the others
  then_plays : (call : Call) (calls : List Call) (spot next : Spot) (done : ℕ) → done + length (call ∷ calls) ≤ 65536 → (w : Machine) (A : List ℕ) → turned 131073 bytes spot w ≡ told_of (ask_call call w) next → ((w : Machine) (A : List ℕ) → Plays calls next (done + 1) w A) → Plays (call ∷ calls) spot done w A
  unfolding ask_from four_words
  then_plays call calls spot next done l w A e h =
      let a = ask_call call w in
      let k : (done + 1) * 4 ≡ suc (suc (suc (suc (done * 4)))) = omega arith in
      let n : done + 1 ≡ suc done = omega arith in
      one_more (length calls) spot done w A (told_of a next) (sym e) ∙ rw (up_is done (omega arith), n) (rw (k, n) at (h (with_marks done w.state.rows a.1) (sets A (done * 4) (a.0.number ∷ a.0.row ∷ a.0.result ∷ a.0.deepest ∷ []))))

  -- where types are still to be checked
  draft_turn : (at ty n : ℕ) (w : Machine) → turned 131073 bytes (record { at = at; ty = ty; left = suc n }) w ≡ turned_as (planned_type 131073 bytes at ty (suc n)) bytes at w
  unfolding turned planned
  draft_turn at ty n w = rw (lt-ltb 0 (suc n) (omega arith))

  after_more : (at next n : ℕ) → spot_after at next (suc n) ≡ record { at = at; ty = next; left = suc n }
  unfolding spot_after
  after_more at next n = rw (ne_eqb (suc n) 0 (λ e. omega arith))

  -- the checks of a call with many types, then what follows; the first has its spot
  drafts_play : (at : ℕ) (call : Call) (middle : ℕ) → CallAt bytes at call middle → lists_types call.code ≡ true → (ty : ℕ) (drafts : List Term) (next : ℕ) → TermsAt bytes ty drafts next → ty ≤ length bytes → (others : List Call) → ((done : ℕ) → done + length others ≤ 65536 → (w : Machine) (A : List ℕ) → Plays others (by_itself next) done w A) → (done : ℕ) → done + length (checks_of call drafts ++ others) ≤ 65536 → (w : Machine) (A : List ℕ) → Plays (checks_of call drafts ++ others) (spot_after at ty (length drafts)) done w A
  unfolding checks_of spot_after
  drafts_play at call middle C f ty [] next no_terms h others K done l w A = K done l w A
  drafts_play at call middle C f ty (u ∷ us) next (next_term {middle = end} far inside e rest) h others K done l w A =
      let here : ty < length bytes = let k = inside h in omega arith in
      rw (after_more at ty (length us))
      (then_plays (check_of call u) (checks_of call us ++ others) _ (spot_after at end (length us)) done l w A
      (draft_turn at ty (length us) w ∙ check_is at ty (suc (length us)) C f (next_term far inside e no_terms) here e w ∙ rw (sub-one (suc (length us))))
      (λ w A. drafts_play at call middle C f end us next rest (inside h) others K (done + 1) (omega arith) w A))

  -- what is sent with one code, then what follows
  module _ (at : ℕ) (sent : Sent) (next : ℕ) (S : SentAt bytes at sent next) where
    sent_low : at < 4294967296
    sent_low = let c = S.call in omega (arith, c.far, c.inside)

    -- by whether it has many types
    starts : (b : Bool) → lists_types sent.call.code ≡ b → (w : Machine) → turned 131073 bytes (by_itself at) w ≡ turned_as (ifb b (planned_many 131073 bytes at) (planned_alone (size_in (tight 131073 bytes) (call_at bytes at)) at)) bytes at w
    unfolding turned planned
    starts b f w = rw (low_is at sent_low, code_is (byte_at bytes at) sent.call.code S.call.code, many_number sent.call.code, f)

    -- they are a check each, or their count is refused
    types_right : right (length sent.drafts) ≡ true → planned_many 131073 bytes at ≡ planned_type 131073 bytes at S.first (length sent.drafts)
    unfolding planned_many planned_by planned_checks sent_in counted_by
    types_right q = rw (roomy, S.tells, q)

    types_wrong : right (length sent.drafts) ≡ false → planned_many 131073 bytes at ≡ planned_alone (Err (Refused Count next)) at
    unfolding planned_many planned_by planned_checks sent_in counted_by
    types_wrong q = rw (roomy, S.tells, q)

    wrong_is : right (length sent.drafts) ≡ false → lists_types sent.call.code ≡ true → (w : Machine) → turned_as (planned_many 131073 bytes at) bytes at w ≡ told_of (ask_call sent.call w) (by_itself next)
    unfolding planned_alone turned_by refused_of refusal_number ask_counted spot_after
    wrong_is q f w = rw (types_wrong q, f)

    one_turn : (left done : ℕ) (w : Machine) (A : List ℕ) (spot : Spot) → turned 131073 bytes (by_itself at) w ≡ turned 131073 bytes spot w → played (suc left) 131073 bytes (by_itself at) done w A ≡ played (suc left) 131073 bytes spot done w A
    unfolding played
    one_turn left done w A spot e = rw e

    module _ (others : List Call) (K : (done : ℕ) → done + length others ≤ 65536 → (w : Machine) (A : List ℕ) → Plays others (by_itself next) done w A) (done : ℕ) (w : Machine) (A : List ℕ) where
      one_plays : right (length sent.drafts) ≡ false → done + length (sent.call ∷ others) ≤ 65536 → Plays (sent.call ∷ others) (by_itself at) done w A
      unfolding spot_after
      one_plays q l = then_plays sent.call others (by_itself at) (by_itself next) done l w A (go (lists_types sent.call.code) refl) (λ w A. K (done + 1) (omega arith) w A)
        where
          go : (b : Bool) → lists_types sent.call.code ≡ b → turned 131073 bytes (by_itself at) w ≡ told_of (ask_call sent.call w) (by_itself next)
          go true f = starts true f w ∙ wrong_is q f w
          go false f = starts false f w ∙ alone_is at (rw (S.alone f) at S.call) f w

      many_plays : (us : List Term) → sent.drafts ≡ us → lists_types sent.call.code ≡ true → right (length us) ≡ true → done + length (checks_of sent.call us ++ others) ≤ 65536 → Plays (checks_of sent.call us ++ others) (by_itself at) done w A
      unfolding checks_of
      many_plays [] d f q l = true_false (sym q)
      many_plays (u ∷ us) d f q l =
          let first : turned 131073 bytes (by_itself at) w ≡ turned 131073 bytes (spot_after at S.first (suc (length us))) w = starts true f w ∙ rw (types_right (rw d q), d, after_more at S.first (length us)) (sym (draft_turn at S.first (length us) w)) in
          one_turn (length (checks_of sent.call us ++ others)) done w A (spot_after at S.first (suc (length us))) first ∙ drafts_play at sent.call S.middle S.call f S.first (u ∷ us) next (rw d at S.drafts) S.begins others K done l w A

      sent_plays : done + length (calls_of sent ++ others) ≤ 65536 → Plays (calls_of sent ++ others) (by_itself at) done w A
      unfolding calls_of
      sent_plays l = go (right (length sent.drafts)) refl l
        where
          -- other codes have no types after them
          coded : (f : Bool) → lists_types sent.call.code ≡ f → right (length sent.drafts) ≡ true → f ≡ true
          coded true e q = refl
          coded false e q = true_false (sym (rw (S.none e) at q))

          go : (b : Bool) → right (length sent.drafts) ≡ b → done + length {A = Call} (elim b as (λ _. List Call) [ true ↦ checks_of sent.call sent.drafts | false ↦ sent.call ∷ [] ] ++ others) ≤ 65536 → Plays (elim b as (λ _. List Call) [ true ↦ checks_of sent.call sent.drafts | false ↦ sent.call ∷ [] ] ++ others) (by_itself at) done w A
          go true q l = many_plays sent.drafts refl (coded (lists_types sent.call.code) refl q) q l
          go false q l = one_plays q l

  played_is : {at : ℕ} {sents : List Sent} → CallsAt bytes at sents → (done : ℕ) → done + length (all_calls sents) ≤ 65536 → (w : Machine) (A : List ℕ) → Plays (all_calls sents) (by_itself at) done w A
  unfolding all_calls played ask_from four_words
  played_is (no_more e) done l w A = refl
  played_is (next_call {at = at} {next = next} {sent = sent} {others = others} S c) done l w A = sent_plays at sent next S (all_calls others) (λ done l w A. played_is c done l w A) done w A l

-- counts and rooms are words
many_calls : {bytes : List ℕ} {at : ℕ} {sents : List Sent} → CallsAt bytes at sents → at ≤ length bytes → at + length (all_calls sents) ≤ length bytes
unfolding all_calls
many_calls (no_more l) h = omega arith
many_calls {bytes} {at} (next_call {next = next} {sent = sent} {others = others} S c) h =
    let k = many_calls c S.inside in
    let f = few_calls bytes at sent next S in
    let n = length-append (calls_of sent) (all_calls others) in
    omega arith

room_is : (n most : ℕ) → most < 4294967296 → at_most n most ≡ min most n
unfolding at_most low_of
room_is n most l = go (ltb most n) refl
  where
    go : (b : Bool) → ltb most n ≡ b → ifb b most (n % 4294967296) ≡ min most n
    go true e = omega (arith, ltb-true most n e)
    go false e = omega (arith, ltb-false most n e)

started_is : (limit : ℕ) (rows cells : List ℕ) → limit ≤ 4096 → machine rows cells (started limit (length rows) (length cells)) ≡ start limit rows cells
unfolding started start
started_is limit rows cells l = rw (low_is limit (omega arith), room_is (length rows / 24) 50000 (omega arith), room_is (length cells / 8) 4294967295 (omega arith))

-- The calls of a run, asked of the machine: what it answers, and the slices after it.
abbrev pub ended : Ran → (rows cells answers : List ℕ) → Ended
ended ran rows cells answers =
    let (saids, w) = ask_all ran.calls (start ran.limit rows cells) in
    end_run (record { number = ran.number; place = ran.place; calls = length ran.calls; rows = w.state.rows; cells = w.state.cells }) w.rows w.cells (written_over (four_words saids) answers)

module _ (bytes rows cells answers : List ℕ) where
  -- refused as a whole
  refused_is : (n place : ℕ) → place < 4294967296 → end_run (refused_run n place) rows cells answers ≡ ended (R.refused_run n place) rows cells answers
  unfolding refused_run ask_from start four_words written_over
  refused_is n place l = rw (low_is place l)

  -- four words for each call, or not
  enough : (n : ℕ) → ltb (length answers / 4) n ≡ ltb (length answers) (4 * n)
  enough n = go (ltb (length answers / 4) n) (ltb (length answers) (4 * n)) refl refl
    where
      go : (a b : Bool) → ltb (length answers / 4) n ≡ a → ltb (length answers) (4 * n) ≡ b → a ≡ b
      go true true e f = refl
      go true false e f = absurd (omega (arith, ltb-true (length answers / 4) n e, ltb-false (length answers) (4 * n) f))
      go false true e f = absurd (omega (arith, ltb-false (length answers / 4) n e, ltb-true (length answers) (4 * n) f))
      go false false e f = refl

  module _ (short : length bytes ≤ 65536) (limit : ℕ) (calls : List Call) (I : RunIs bytes limit calls) where
    few_read : 2 + length calls ≤ length bytes
    few_read = rw I.are (many_calls I.all I.header.inside)

    calls_played : played (length calls) 131073 bytes first_spot 0 (start limit rows cells) answers ≡ record { left = (ask_all calls (start limit rows cells)).1; answers = sets answers (0 * 4) (four_words (ask_all calls (start limit rows cells)).0) }
    calls_played = rw I.are (played_is bytes short I.all 0 (rw (← I.are) few_low) (start limit rows cells) answers)
      where
        few_low : 0 + length calls ≤ 65536
        few_low = let few = few_read in omega arith

    all_played : 4 * length calls ≤ length answers → ended_read (low_of (length calls)) (played (low_of (length calls)) 131073 bytes first_spot 0 (machine rows cells (started limit (length rows) (length cells))) answers) ≡ ended (R.played limit calls (R.play_all calls (R.start limit (length rows) (length cells)))) rows cells answers
    unfolding ended_read written_over
    all_played l =
        let few = few_read in
        let n = said_calls 0 calls (start limit rows cells) in
        rw (low_is (length calls) (omega arith), started_is limit rows cells I.header.high, calls_played, written [] (four_words (ask_all calls (start limit rows cells)).0) answers 0 refl (omega arith))

    all_read : run_by (calls_read limit (length calls)) bytes rows cells answers ≡ ended (run_read (length rows) (length cells) (length answers) (got (limit, calls) [] 0)) rows cells answers
    unfolding run_by run_read refusal_number
    all_read = rw (enough (length calls)) (go (ltb (length answers) (4 * length calls)) refl)
      where
        go : (b : Bool) → ltb (length answers) (4 * length calls) ≡ b → ifb b (end_run (refused_run Refusal.answers 0) rows cells answers) (ended_read (low_of (length calls)) (played (low_of (length calls)) 131073 bytes first_spot 0 (machine rows cells (started limit (length rows) (length cells))) answers)) ≡ ended (elim b as (λ _. Ran) [ true ↦ R.refused_run Refusal.answers 0 | false ↦ R.played limit calls (R.play_all calls (R.start limit (length rows) (length cells))) ]) rows cells answers
        go true e = refused_is _ 0 (omega arith)
        go false e = all_played (omega (arith, ltb-false (length answers) (4 * length calls) e))

  pub run_is : run_of bytes rows cells answers ≡ ended (run (length rows) (length cells) (length answers) bytes) rows cells answers
  unfolding run_of run run_by run_read unless_long scan_told refusal_number
  run_is = go (ltb (length rows) 24) (ltb (length cells) 8) (ltb 65536 (length bytes)) refl (read_run bytes) refl
    where
      go : (a b c : Bool) → ltb 65536 (length bytes) ≡ c → (r : Read (ℕ × List Call)) → read_run bytes ≡ r → ifb a (end_run (refused_run Refusal.slices 0) rows cells answers) (ifb b (end_run (refused_run Refusal.slices 0) rows cells answers) (run_by (unless_long c (scan_told r)) bytes rows cells answers)) ≡ ended (elim (a || b) as (λ _. Ran) [ true ↦ R.refused_run Refusal.slices 0 | false ↦ elim c as (λ _. Ran) [ true ↦ R.refused_run Refusal.bytes 0 | false ↦ run_read (length rows) (length cells) (length answers) r ] ]) rows cells answers
      go true b c q r e = refused_is _ 0 (omega arith)
      go false true c q r e = refused_is _ 0 (omega arith)
      go false false true q r e = refused_is _ 0 (omega arith)
      go false false false q (bad place) e = refused_is _ place (omega (arith, run_fault bytes e, ltb-false 65536 (length bytes) q))
      go false false false q (got (limit, calls) rest end) e = all_read (ltb-false 65536 (length bytes) q) limit calls (read_is bytes e)
