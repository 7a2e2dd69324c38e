-- The answers of the methods, with the words that they leave, as ends of steps. Assumes nothing.
use Rattle.std.specs.Prelude.{ℕ, List, ◌-◌, Result, Ok, Err, Some, None}
use Rattle.std.specs.Prelude as program
use Rattle.std.proofs.Math.Option.{Option, none, some}
use Rattle.ast.specs.declared.refusals.Refusal.{Refusal}
use Rattle.ast.specs.Refusals.{refusal_number}
use Rattle.producer.specs.declared.State.{State}
use Rattle.producer.specs.declared.answers.Refused.{Refused}
use Rattle.producer.specs.declared.codes.Rule.{Rule}
use Rattle.producer.specs.declared.rows.Refs.{Refs}
use Rattle.producer.specs.Machine as step
use Rattle.producer.specs.Machine.{Finding, Reduction, machine, conversions_of}
use Rattle.producer.specs.Judgments.{rule_number}

-- the counts with what was found, or a refusal
abbrev pub Answer : Type 0 → Type 0
Answer A = Result (State × A) Refused

unfoldable pub refused_of : State → Refusal → Refused
refused_of s r = record { state = s; refusal = r }

unfoldable pub end : {A : Type 0} → Answer A → List ℕ → List ℕ → step.Result A
end (Ok (s, x)) R C = step.is x (machine R C s)
end (Err e) R C = step.not (refusal_number e.refusal) (machine R C e.state)

-- an answer of the counts alone
unfoldable pub end_state : Result State Refused → List ℕ → List ℕ → step.Result (Unit {0})
end_state (Ok s) R C = step.is tt (machine R C s)
end_state (Err e) R C = step.not (refusal_number e.refusal) (machine R C e.state)

unfoldable pub end_found : Answer (ℕ × Refs × Rule) → List ℕ → List ℕ → step.Result Finding
end_found (Ok (s, (ty, refs, rule))) R C = step.is (record { type = ty; refs = refs; rule = rule_number rule }) (machine R C s)
end_found (Err e) R C = step.not (refusal_number e.refusal) (machine R C e.state)

unfoldable pub end_step : Answer (program.Option (ℕ × ℕ × ℕ)) → List ℕ → List ℕ → step.Result (Option Reduction)
end_step (Ok (s, Some (term, ty, row))) R C = step.is (some (record { term = term; type = ty; row = row })) (machine R C s)
end_step (Ok (s, None)) R C = step.is none (machine R C s)
end_step (Err e) R C = step.not (refusal_number e.refusal) (machine R C e.state)

unfoldable pub end_maybe : {A : Type 0} → Answer (program.Option A) → List ℕ → List ℕ → step.Result (Option A)
end_maybe (Ok (s, Some x)) R C = step.is (some x) (machine R C s)
end_maybe (Ok (s, None)) R C = step.is none (machine R C s)
end_maybe (Err e) R C = step.not (refusal_number e.refusal) (machine R C e.state)

-- a conversion has ended
unfoldable pub ended_answer : {A : Type 0} → Answer A → Answer A
ended_answer (Ok (s, x)) = Ok (conversions_of (s.conversions - 1) s, x)
ended_answer (Err e) = Err (record { state = conversions_of (e.state.conversions - 1) e.state; refusal = e.refusal })
