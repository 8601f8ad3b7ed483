-- Samples, by computation.
-- Assumes nothing.
use mathlib.Core.Path.{◌≡◌, refl}
use mathlib.Core.List.{List, [], ◌∷◌}
use Rattle.model.specs.Bytes.{number_at, bytes_of}
use Rattle.model.specs.Entries.{list_of, joined, encode_each}
use Rattle.model.specs.Outcome.{answer, refused, by_entry_from}
use Rattle.model.specs.Search.{first_from}
use Rattle.tasks.specs.declared.Task.{Task}
use Rattle.tasks.specs.Tasks.{read_tasks, encode_tasks, task_at, fault_of_task}
use Rattle.tasks.specs.Multiples.{multiple_of, period_product, is_common_multiple}
use Rattle.tasks.specs.LaidOut.{lay_out, jobs_at, released_by, releases_at}
use Rattle.tasks.specs.Rounds.{rounds}

abbrev two : List Task
two = record { phase = 1; period = 4; deadline = 2; cycles = 7 } ∷ record { phase = 0; period = 6; deadline = 1; cycles = 5 } ∷ []

multiple : multiple_of two ≡ 12
unfolding multiple_of period_product is_common_multiple first_from
multiple = refl

laid_out : lay_out two 12
    ≡ record { release = 0; deadline = 1; cycles = 5 }
    ∷ record { release = 1; deadline = 3; cycles = 7 }
    ∷ record { release = 5; deadline = 7; cycles = 7 }
    ∷ record { release = 6; deadline = 7; cycles = 5 }
    ∷ record { release = 9; deadline = 11; cycles = 7 }
    ∷ []
unfolding lay_out jobs_at released_by releases_at joined
laid_out = refl

whole : rounds (encode_tasks two) 62 ≡ answer (record { multiple = 12; jobs = lay_out two 12 })
unfolding rounds read_tasks task_at fault_of_task encode_tasks encode_each multiple_of period_product is_common_multiple first_from lay_out jobs_at released_by releases_at joined list_of number_at bytes_of by_entry_from
whole = refl

short : rounds (encode_tasks two) 61 ≡ refused 12 62
unfolding rounds read_tasks task_at fault_of_task encode_tasks encode_each multiple_of period_product is_common_multiple first_from lay_out jobs_at released_by releases_at joined list_of number_at bytes_of by_entry_from
short = refl
