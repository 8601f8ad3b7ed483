-- Whether a walk goes on after an answer.
use Rattle.std.specs.Prelude.{Bool, true, false, Some, None, Ok, Err}
use Rattle.walking.specs.Walking.{StepAnswer}

abbrev pub is_step : StepAnswer → Bool
is_step (Ok (Some step)) = true
is_step (Ok None) = false
is_step (Err own) = false
