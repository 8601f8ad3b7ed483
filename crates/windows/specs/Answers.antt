-- The answers of this crate: the paper's values.
use Rattle.std.specs.Prelude.{Option, Some, None}
use Rattle.std.proofs.Math.Option.{Option as Found, none, some}
use Rattle.model.specs.Windows.{Window}
use Rattle.windows.specs.declared.overfull.Window.{Window as CodeWindow}

-- The earliest overfull window, or that the jobs fit.
abbrev pub overfull_answer : Found Window → Option CodeWindow
overfull_answer none = None
overfull_answer (some window) = Some (record { start = window.start; end = window.end })
