-- The limits of document 01: 0 to 64 jobs, 1 to 8 levels, the idle entry counted with them, deadlines up to 1,000,000,
-- cycles 1 to 1,000,000,000, frequencies 1 to 1,000 and voltages 1 to 500. Each is the largest number allowed.
-- Those that the code needs have the same names in src/lib.rt.
use Rattle.std.specs.Prelude.{ℕ, ◌*◌}

abbrev pub max_levels : ℕ
max_levels = 8

abbrev pub max_frequency : ℕ
max_frequency = 1_000

abbrev pub max_voltage : ℕ
max_voltage = 500

-- The draw of the idle entry stands in the 16 bits of a voltage (document 02, Change 2).
abbrev pub max_draw : ℕ
max_draw = 65_535

-- The power of the highest frequency at the highest voltage.
abbrev pub max_power : ℕ
max_power = max_frequency * max_voltage * max_voltage

abbrev pub max_jobs : ℕ
max_jobs = 64

abbrev pub max_deadline : ℕ
max_deadline = 1_000_000

abbrev pub max_cycles : ℕ
max_cycles = 1_000_000_000

-- "Up to 8 .. ticks come beside the job table" (document 02, Change 6).
abbrev pub max_marks : ℕ
max_marks = 8

-- "35 a parameter out of range (free ticks above 1,000,000)", and "a margin of 0 to 100 percent" (document 02, Change 9).
abbrev pub max_free : ℕ
max_free = 1_000_000

abbrev pub max_margin : ℕ
max_margin = 100

-- Each job has a release and a deadline, each mark may be a bound too, and neighbouring bounds have an interval between
-- them: "Intervals may now number 135."
abbrev pub max_bounds : ℕ
max_bounds = 136

abbrev pub max_intervals : ℕ
max_intervals = 135

-- Idling and the levels.
abbrev pub max_points : ℕ
max_points = 9
