-- The store of any run: what a run of bytes has left after any of its calls stands for a state of the walk, and no number in a cell is above
-- 65,535: `run_store`.
use Rattle.std.specs.Prelude.{ℕ, ◌≤◌, ◌≡◌, List, ◌++◌, length}
use Rattle.std.proofs.Common.{arith}
use Rattle.producer.specs.Machine.{Machine}
use Rattle.walk.specs.State.{State, Thing}
use Rattle.walk.specs.Reader.{Call}
use Rattle.walk.specs.Run.{run}
use Rattle.order.specs.Numbers.{largest, thing_top, AtMost, at_most_cons}
use Rattle.order.specs.Cases.{run_cases}
use Rattle.link.specs.Lists.{Nth, here, there}
use Rattle.link.specs.Things.{Cell, cell_nth}
use Rattle.link.specs.Holds.{Before, Holds}
use Rattle.link.specs.Asked.{ask_all, start}
use Rattle.link.proofs.Runs.{runs}

-- words that stand for a state, with no number above 65,535 in a cell
pub record Store (w : Machine) : Type 0 where
  pub before : Before
  pub s : State
  pub holds : Holds before w s
  pub small : AtMost largest thing_top s.cells

pub limit_most : (row_words cell_words answer_words : ℕ) (bytes : List ℕ) → (run row_words cell_words answer_words bytes).limit ≤ 4096
limit_most row_words cell_words answer_words bytes =
    run_cases row_words cell_words answer_words bytes (λ ran. ran.limit ≤ 4096) (λ n place. omega arith) (λ limit calls r. r.most)

-- what the first calls of a run leave, accepted or refused: for all bytes and all slices
pub run_store :
    (rows cells answers bytes : List ℕ) (first others : List Call) →
    let ran = run (length rows) (length cells) (length answers) bytes in
    ran.calls ≡ first ++ others → Store (ask_all first (start ran.limit rows cells)).1
run_store rows cells answers bytes first others e =
    let r = runs _ rows cells first (limit_most (length rows) (length cells) (length answers) bytes) in
    record { before = _; s = _; holds = r.holds; small = r.fit.held }

-- numbers of what has a cell
small_nth : {m n : ℕ} {x : Thing} {xs : List Thing} → Nth n x xs → AtMost m thing_top xs → thing_top x ≤ m
small_nth (here e) (at_most_cons h hs) = h
small_nth (there k) (at_most_cons h hs) = small_nth k hs

pub small_cell : {m n : ℕ} {x : Thing} {xs : List Thing} → AtMost m thing_top xs → Cell n x xs → thing_top x ≤ m
small_cell h c = small_nth (cell_nth c) h
