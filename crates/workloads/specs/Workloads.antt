-- What is to be placed, as plain arrays hold it.
use Rattle.std.specs.Prelude.{ℕ, List}

-- Job j is open in the intervals from first[j] up to, not including, last[j], and has cycles[j] to be placed there. Interval i has
-- the length size[i]. Band k goes from frequency[k] to frequency[k + 1].
pub record Workload : Type 0 where
  pub jobs : ℕ
  pub intervals : ℕ
  pub bands : ℕ
  pub first : List ℕ
  pub last : List ℕ
  pub cycles : List ℕ
  pub size : List ℕ
  pub frequency : List ℕ
