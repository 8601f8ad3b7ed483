-- `altered_levels::running_count` meets its contract: the first frequency tells whether there is an idle entry (proofs/KeptLevels.antt).
-- Assumes nothing.
use Rattle.parameters.proofs.KeptLevels.{counted}
use Rattle.parameters.proofs.altered_levels.running_count.Goals as goal

pub returns : goal.returns
returns c = λ voltages. counted _ _ voltages c.requires.0 _ c.idle_entries.ensures.0
