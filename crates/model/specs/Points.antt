-- Working levels (document 01, "Working levels").
use Rattle.std.specs.Prelude.{ℕ, suc, ◌-◌, ◌*◌, ◌<◌, ◌≤◌, ◌≡◌, Bool, cond, not, ◌&&◌, List, [], ◌∷◌, map, length, get_or, ltb, leb}
use Rattle.model.specs.declared.Level.{Level}
use Rattle.model.specs.Levels.{level_of}
use Rattle.model.specs.Search.{some_below}

-- Idling and each level are points: a frequency and the power drawn at it.
pub record Point : Type 0 where
  pub frequency : ℕ
  pub power : ℕ

-- A level's power is frequency × voltage × voltage.
abbrev pub power_of : Level → ℕ
power_of level = level.frequency * level.voltage * level.voltage

-- Idling has frequency 0 and draws idle_power: 0 in document 01, and the draw of the idle entry in document 02.
abbrev pub idling_point : (idle_power : ℕ) → Point
idling_point idle_power = record { frequency = 0; power = idle_power }

abbrev pub point_of_level : Level → Point
point_of_level level = record { frequency = level.frequency; power = power_of level }

-- Idling is point 0, and level number i is point i + 1.
unfoldable pub points : (idle_power : ℕ) → List Level → List Point
points idle_power levels = idling_point idle_power ∷ map point_of_level levels

abbrev pub point_at : List Point → ℕ → Point
point_at ps i = get_or ps i (idling_point 0)

-- (p_b − p_a)(f_c − f_a) ≥ (p_c − p_a)(f_b − f_a), p power, f frequency. Along the points both rise, so no difference is negative.
unfoldable pub drops : (a b c : Point) → Bool
drops a b c =
    leb ((c.power - a.power) * (b.frequency - a.frequency)) ((b.power - a.power) * (c.frequency - a.frequency))

-- Point b is dropped when some lower a and some higher c drop it. They may be dropped themselves.
unfoldable pub dropped : List Point → ℕ → Bool
dropped ps b =
    some_below b (λ a. some_below (length ps) (λ c. ltb b c && drops (point_at ps a) (point_at ps b) (point_at ps c)))

-- The elements of a list whose numbers, counted from first, pass the test.
unfoldable pub select_from : (first : ℕ) → (ℕ → Bool) → List Point → List Point
select_from first test [] = []
select_from first test (x ∷ xs) = cond (test first) (x ∷ select_from (suc first) test xs) (select_from (suc first) test xs)

-- The rest work. Working point 0 is idling, and working points 1 to m are the working levels upward.
unfoldable pub working : List Point → List Point
working ps = select_from 0 (λ i. not (dropped ps i)) ps

-- The top frequency is that of the last level.
abbrev pub top_frequency : List Level → ℕ
top_frequency levels = (level_of levels (length levels - 1)).frequency

-- What the theory asks of points, whatever their number: at least one level above idling at frequency 0, and
-- frequencies and powers that rise strictly.
pub record RisingPoints (ps : List Point) : Type 0 where
  pub some : 2 ≤ length ps
  pub start : (point_at ps 0).frequency ≡ 0
  pub frequency_rises : (i : ℕ) → suc i < length ps → (point_at ps i).frequency < (point_at ps (suc i)).frequency
  pub power_rises : (i : ℕ) → suc i < length ps → (point_at ps i).power < (point_at ps (suc i)).power
