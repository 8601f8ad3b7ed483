-- The least spares of windows by their end, in plain arrays.
use Rattle.std.specs.Prelude.{ℕ, suc, ◌+◌, ◌-◌, ◌^◌, ◌<◌, ◌≤◌, min, ◌≡◌, List, length, get_or}
use Rattle.model.specs.Limits.{max_intervals}

-- The windows from a start: what the jobs inside need up to each end, which grows by what is due there, and fits into what the top frequency
-- gives between the two.
pub record CanLower (need : ℕ → ℕ) (capacity due : List ℕ) (intervals start : ℕ) : Type 0 where
  pub few : intervals ≤ max_intervals
  pub inside : start < intervals
  pub need_none : need start ≡ 0
  pub need_next : (end : ℕ) → start ≤ end → end < intervals → need (suc end) ≡ need end + get_or due (suc end) 0
  pub fits : (end : ℕ) → start < end → end ≤ intervals → get_or capacity start 0 + need end ≤ get_or capacity end 0
  pub small : (end : ℕ) → end ≤ intervals → get_or capacity end 0 < 2 ^ 32

-- The spare of the window from a start to an end.
abbrev pub spare_to : (need : ℕ → ℕ) → (capacity : List ℕ) → (start end : ℕ) → ℕ
spare_to need capacity start end = get_or capacity end 0 - (get_or capacity start 0 + need end)

-- The spares of the ends after the start are lowered to these.
pub record Lowered (need : ℕ → ℕ) (capacity : List ℕ) (intervals start : ℕ) (before after : List ℕ) : Type 0 where
  pub size : length after ≡ length before
  pub lowered : (end : ℕ) → start < end → end ≤ intervals → get_or after end 0 ≡ min (get_or before end 0) (spare_to need capacity start end)

-- The least of the numbers of an array from one place up to another.
pub record LeastAmong (numbers : List ℕ) (first last least : ℕ) : Type 0 where
  pub lowest : (i : ℕ) → first ≤ i → i ≤ last → least ≤ get_or numbers i 0
  pub met : (i : ℕ) × (first ≤ i) × (i ≤ last) × (get_or numbers i 0 ≡ least)
