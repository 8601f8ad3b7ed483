-- From the answer to the struct for C, of the job nearest to trouble.
-- Assumes nothing.
use mathlib.Core.Path.{◌≡◌, refl, sym, ◌∙◌, ap}
use mathlib.Core.List.{List}
use Prim.Native.Nat.{ℕ}
use native.Mathlib.Omega.{arith}
use lib.ListN.{length}
use lib.IntN.{pos}
use Rattle.std.specs.Prelude.{Ok, Err}
use Rattle.model.specs.declared.Parameters.{Parameters}
use Rattle.model.specs.Outcome.{From}
use Rattle.model.specs.Refusals.{number_of}
use Rattle.model.proofs.Refusals.{number_numbered}
use Rattle.spare.specs.declared.unmet.NoAnswer.TheVariants.{Overfull, Refused}
use Rattle.job_rooms.specs.SetOutcomes.{SetOutcome, refusal, overfull, answered}
use Rattle.nearest.specs.Nearest.{nearest}
use Rattle.nearest.specs.NearestAnswers.{NearestAnswer, nearest_job_answer, NearestContract}
use Rattle.nearest.proofs.NearestRefusals.{nearest_refuses}
use Rattle.capi.specs.declared.nearest_job.NearestResult.{NearestResult}
use Rattle.capi.specs.Results.{nearest_result, NearestCall}

-- the struct of an answer
abbrev pub struct_of : NearestAnswer → NearestResult
struct_of (Ok size) = record { number = 0; place = 0; start = 0; end = 0; spare = pos 0; length = size }
struct_of (Err (Overfull start end spare)) = record { number = 11; place = 0; start = start; end = end; spare = spare; length = 0 }
struct_of (Err (Refused own)) = record { number = number_of own.fault; place = own.place; start = 0; end = 0; spare = pos 0; length = 0 }

struct_is : (outcome : SetOutcome (List ℕ)) → ((number place : ℕ) → outcome ≡ refusal number place → From 1 36 number)
    → struct_of (nearest_job_answer outcome) ≡ nearest_result outcome
struct_is (refusal number place) in_table = rw (number_numbered number (in_table number place refl)) refl
struct_is (overfull start end spare) in_table = refl
struct_is (answered list) in_table = refl

pub returned : (level_bytes job_bytes : List ℕ) (parameters : Parameters) (before after : List ℕ) {given : NearestAnswer}
    → NearestContract level_bytes job_bytes parameters before after given → (found : NearestAnswer) (result : NearestResult) → given ≡ found
    → result ≡ struct_of found → NearestCall level_bytes job_bytes parameters before after result
returned level_bytes job_bytes parameters before after contract found result same is =
    record {
      result_is = is ∙ ap struct_of (sym same ∙ contract.answer_is) ∙ struct_is (nearest level_bytes job_bytes parameters (length before)) in_table;
      list_is = contract.list_is;
    }
  where
    in_table : (number place : ℕ) → nearest level_bytes job_bytes parameters (length before) ≡ refusal number place → From 1 36 number
    in_table number place e = omega (arith, nearest_refuses level_bytes job_bytes parameters (length before) number place e)
