-- Laws of shares that fill given loads anew: at the start, at one cell, at a cell that is passed, at the end of an interval, and at the
-- end, when they are the greatest.
-- Assumes nothing.
use mathlib.Core.Path.{◌≡◌, refl, sym, ◌∙◌}
use mathlib.Core.Logic.{◌⊎◌, inl, inr}
use Prim.Native.Nat.{ℕ, zero, suc, ◌+◌, ◌<◌, ◌≤◌}
use native.Mathlib.Nat.{eq-zero-or-pos, eq-or-lt_of_le, le_of_suc-le-suc}
use native.Mathlib.Decide.{ℕ_discrete}
use native.Mathlib.Omega.{arith}
use lib.Dec.{leb, ltb, eqb}
use borrow.Author.Tests.{le-leb, lt-leb, eq-eqb, ne_eqb}
use Rattle.model.specs.Sum.{sum, only_if}
use Rattle.model.specs.Plans.{Shares}
use Rattle.model.proofs.Numbers.{lt_or_le}
use Rattle.model.proofs.Sum.{sum_cong, sum_mono, sum_zero, sum_add, sum_hit, sum_swap, sum_shorter, sum_update}
use Rattle.workloads.specs.Placement.{Problem, SoundProblem, Open, load_of, placed_of}
use Rattle.paths.specs.Paths.{Grown}
use Rattle.paths.proofs.GrownShares.{grown_case, grown_load, grown_placed}
use Rattle.loads.specs.Loads.{Fillable}
use Rattle.loads.specs.Crossing.{due_by, Takes}
use Rattle.loads.specs.Refilled.{Before, total, cell_count, Agree, Rival, Refilling, Refilled}
use Rattle.loads.proofs.Loads.{whole_by, loads_by}
use Rattle.loads.proofs.Crossing.{fill_starts, fill_takes, fill_skips, row_placed, row_next, all_ended, few_cells}

before_or_not : (k q i j : ℕ) → (Before k q i j) ⊎ (Before k q i j → ⊥)
before_or_not k q i j = go (lt_or_le k i) (lt_or_le q j) (ℕ_discrete k i)
  where
    go : (k < i) ⊎ (i ≤ k) → (q < j) ⊎ (j ≤ q) → Dec (k ≡ i) → (Before k q i j) ⊎ (Before k q i j → ⊥)
    go (inl h) s d = inl (inl h)
    go (inr l) (inl s) (yes e) = inl (inr (e, s))
    go (inr l) (inr s) d = inr (λ b. never b)
      where
        never : Before k q i j → ⊥
        never (inl h) = omega arith
        never (inr (e, h)) = omega arith
    go (inr l) (inl s) (no other) = inr (λ b. never b)
      where
        never : Before k q i j → ⊥
        never (inl h) = omega arith
        never (inr (e, h)) = other e

-- before the next cell: before this one, or this one
before_next : (k q i j : ℕ) → Before k q i (suc j) → (Before k q i j) ⊎ ((k ≡ i) × (q ≡ j))
before_next k q i j (inl h) = inl (inl h)
before_next k q i j (inr (e, h)) = go (eq-or-lt_of_le (le_of_suc-le-suc h))
  where
    go : (q ≡ j) ⊎ (q < j) → (Before k q i j) ⊎ ((k ≡ i) × (q ≡ j))
    go (inl s) = inr (e, s)
    go (inr l) = inl (inr (e, l))

before_more : (k q i j : ℕ) → Before k q i j → Before k q i (suc j)
before_more k q i j (inl h) = inl h
before_more k q i j (inr (e, h)) = inr (e, omega arith)

not_here : (i j : ℕ) → Before i j i j → ⊥
not_here i j (inl h) = omega arith
not_here i j (inr (e, h)) = omega arith

module _ {p : Problem} {loads : ℕ → ℕ} {shares : Shares} {left cross : ℕ → ℕ} {i j : ℕ} (inside : i < p.intervals) (below : j < p.jobs)
    (now : Refilling p loads shares left cross i j) where
  pub own_zero : shares i j ≡ 0
  own_zero = now.unwritten i j inside below (not_here i j)

  module _ (rival : Shares) (against : Rival p loads rival) (agree : Agree p i j rival shares) where
    -- what a rival that agreed so far has in a cell
    has : (k q : ℕ) → k < p.intervals → q < p.jobs → shares k q ≤ rival k q
    has k q h l = go (before_or_not k q i j)
      where
        go : (Before k q i j) ⊎ (Before k q i j → ⊥) → shares k q ≤ rival k q
        go (inl b) = omega (arith, agree k q h l b)
        go (inr never) = omega (arith, now.unwritten k q h l never)

    -- up to a bound after this row it has what is placed, and its share in this cell
    placed_by : (b q : ℕ) → i < b → b ≤ p.intervals → q < p.jobs → sum b (λ k. shares k q) ≡ placed_of p shares q
    placed_by b q after within l =
        sym (sum_shorter b p.intervals (λ k. shares k q) within (λ k past h. now.unwritten k q h l (λ x. never k past x)))
      where
        never : (k : ℕ) → b ≤ k → Before k q i j → ⊥
        never k past (inl h) = omega arith
        never k past (inr (e, h)) = omega arith

    other_by : (b q : ℕ) → i < b → b ≤ p.intervals → q < p.jobs → placed_of p shares q ≤ sum b (λ k. rival k q)
    other_by b q after within l = rw (← placed_by b q after within l) (sum_mono b (λ k h. has k q (omega arith) l))

    own_by : (b : ℕ) → i < b → b ≤ p.intervals → placed_of p shares j + rival i j ≤ sum b (λ k. rival k j)
    own_by b after within =
        let add = sum_add b (λ k. shares k j) (λ k. only_if (eqb i k) (rival k j)) in
        let hit = sum_hit b i (λ k. rival k j) after in
        let most : sum b (λ k. shares k j + only_if (eqb i k) (rival k j)) ≤ sum b (λ k. rival k j) =
        sum_mono b (λ k h. each k (omega arith) (ℕ_discrete i k)) in
        omega (arith, placed_by b j after within below)
      where
        each : (k : ℕ) → k < p.intervals → Dec (i ≡ k) → shares k j + only_if (eqb i k) (rival k j) ≤ rival k j
        each k h (yes e) = let none : shares k j ≡ 0 = rw e at own_zero in rw (eq-eqb i k e) (omega arith)
        each k h (no other) = rw (ne_eqb i k other) (omega (arith, has k j h below))

    within_left : rival i j ≤ left j
    within_left = omega (arith, own_by p.intervals inside (omega arith), against.serving.whole j below, now.rest j below)

    within_cross : (b : ℕ) → i < b → b < p.last j → b ≤ p.intervals → rival i j ≤ cross b
    unfolding due_by
    within_cross b after before within =
        let due : ℕ → ℕ = λ q. only_if (leb (p.last q) b) (left q) in
        let own : ℕ → ℕ = λ q. only_if (eqb j q) (rival i j) in
        let hit : sum p.jobs own ≡ rival i j = sum_hit p.jobs j (λ q. rival i j) below in
        let one : sum p.jobs (λ q. placed_of p shares q + due q) ≡ sum p.jobs (placed_of p shares) + sum p.jobs due =
        sum_add p.jobs (placed_of p shares) due in
        let two : sum p.jobs (λ q. placed_of p shares q + due q + own q) ≡ sum p.jobs (λ q. placed_of p shares q + due q) + sum p.jobs own =
        sum_add p.jobs (λ q. placed_of p shares q + due q) own in
        let most : sum p.jobs (λ q. placed_of p shares q + due q + own q) ≤ sum p.jobs (λ q. sum b (λ k. rival k q)) =
        sum_mono p.jobs (λ q l. each q l (ℕ_discrete j q) (lt_or_le b (p.last q))) in
        omega (
          arith,
          now.crossing.balance b after within,
          against.behind b within,
          loads_by against.serving b,
          sum_swap p.intervals p.jobs shares,
        )
      where
        each : (q : ℕ) → q < p.jobs → Dec (j ≡ q) → (b < p.last q) ⊎ (p.last q ≤ b)
            → placed_of p shares q + only_if (leb (p.last q) b) (left q) + only_if (eqb j q) (rival i j) ≤ sum b (λ k. rival k q)
        each q l (yes e) due =
            rw (← e) (rw (lt-leb (p.last j) b before, eq-eqb j j refl) (omega (arith, own_by b after within)))
        each q l (no other) (inl late) =
            rw (lt-leb (p.last q) b late, ne_eqb j q other) (omega (arith, other_by b q after within l))
        each q l (no other) (inr due) =
            rw (le-leb (p.last q) b due, ne_eqb j q other)
            (omega (arith, whole_by against.serving b q within l due, now.rest q l))

-- one share more
module _ {p : Problem} {before after : Shares} {i j amount : ℕ} (grown : Grown p before after i j amount) where
  total_grown : total p after ≡ total p before + amount
  total_grown =
      sum_update p.intervals (load_of p before) (load_of p after) i amount grown.interval_below
      (rw (eq-eqb i i refl) at (grown_load grown i grown.interval_below))
      (λ k h other. let e : load_of p after k ≡ load_of p before k + 0 = rw (ne_eqb k i other) at (grown_load grown k h) in omega arith)

  cells_grown : before i j ≡ 0 → cell_count p after ≡ cell_count p before + only_if (ltb 0 amount) 1
  cells_grown none =
      sum_update p.intervals (λ k. sum p.jobs (λ q. only_if (ltb 0 (before k q)) 1)) (λ k. sum p.jobs (λ q. only_if (ltb 0 (after k q)) 1)) i
      (only_if (ltb 0 amount) 1) grown.interval_below
      (sum_update p.jobs (λ q. only_if (ltb 0 (before i q)) 1) (λ q. only_if (ltb 0 (after i q)) 1) j (only_if (ltb 0 amount) 1) grown.job_below own
      (λ q l other. rw (grown.other_job i q grown.interval_below l other)))
      (λ k h other. sum_cong p.jobs (λ q l. row k q other (grown_case grown k q h l)))
    where
      own : only_if (ltb 0 (after i j)) 1 ≡ only_if (ltb 0 (before i j)) 1 + only_if (ltb 0 amount) 1
      own = let e : after i j ≡ amount = omega (arith, grown.here) in rw (e, none) (omega arith)

      row : (k q : ℕ) → (k ≡ i → ⊥) → (after k q ≡ before k q) ⊎ ((k ≡ i) × (q ≡ j)) → only_if (ltb 0 (after k q)) 1 ≡ only_if (ltb 0 (before k q)) 1
      row k q other (inl same) = rw same
      row k q other (inr (there, its)) = absurd (other there)

  -- before its cell, and after it, nothing changes
  grown_before : (k q : ℕ) → k < p.intervals → q < p.jobs → (Before k q i j) → after k q ≡ before k q
  grown_before k q h l b = go (grown_case grown k q h l) b
    where
      go : (after k q ≡ before k q) ⊎ ((k ≡ i) × (q ≡ j)) → Before k q i j → after k q ≡ before k q
      go (inl same) b = same
      go (inr (there, its)) (inl h) = absurd (omega arith)
      go (inr (there, its)) (inr (e, h)) = absurd (omega arith)

  grown_after : (k q : ℕ) → k < p.intervals → q < p.jobs → (Before k q i (suc j) → ⊥) → after k q ≡ before k q
  grown_after k q h l never = go (grown_case grown k q h l)
    where
      go : (after k q ≡ before k q) ⊎ ((k ≡ i) × (q ≡ j)) → after k q ≡ before k q
      go (inl same) = same
      go (inr (there, its)) = absurd (never (inr (there, omega arith)))

before_trans : (a b k q i j : ℕ) → Before a b k q → Before k q i j → Before a b i j
before_trans a b k q i j (inl h) (inl l) = inl (omega arith)
before_trans a b k q i j (inl h) (inr (e, l)) = inl (omega arith)
before_trans a b k q i j (inr (e, h)) (inl l) = inl (omega arith)
before_trans a b k q i j (inr (e, h)) (inr (f, l)) = inr (e ∙ f, omega arith)

-- at the start
pub refill_starts : {p : Problem} → SoundProblem p → {loads : ℕ → ℕ} → Fillable p loads
    → (cross : ℕ → ℕ) → ((b : ℕ) → b ≤ p.intervals → cross b + due_by p p.cycles b ≡ sum b loads)
    → (shares : Shares) → ((i j : ℕ) → i < p.intervals → j < p.jobs → shares i j ≡ 0)
    → Refilling p loads shares p.cycles cross 0 0
refill_starts {p} sound {loads} fillable cross starts shares none =
    let no-loads : (i : ℕ) → i < p.intervals → load_of p shares i ≡ 0 = λ i h. sum_zero p.jobs (λ j l. none i j h l) in
    let no-total : total p shares ≡ 0 = sum_zero p.intervals no-loads in
    let no_cells : cell_count p shares ≡ 0 = sum_zero p.intervals (λ i h. sum_zero p.jobs (λ j l. rw (none i j h l))) in
    record {
      crossing = rw (no-total, no_cells) (fill_starts sound fillable cross starts);
      shut = λ i j h l more. absurd (omega (arith, none i j h l));
      rest = λ q l. let no_place : placed_of p shares q ≡ 0 = sum_zero p.intervals (λ i h. none i q h l) in omega arith;
      rows = λ k h. absurd (omega arith);
      unwritten = λ k q h l b. none k q h l;
      greatest = λ k q h l b. absurd (nothing k q b);
    }
  where
    nothing : (k q : ℕ) → Before k q 0 0 → ⊥
    nothing k q (inl h) = omega arith
    nothing k q (inr (e, h)) = omega arith

-- one cell takes what it can
pub refill_takes : {p : Problem} → SoundProblem p → {loads : ℕ → ℕ} {shares after : Shares} {left cross left_after cross-after : ℕ → ℕ} {i j amount : ℕ}
    → Open p i j → Refilling p loads shares left cross i j
    → Grown p shares after i j amount → Takes i j (p.last j) amount left cross left_after cross-after
    → Refilling p loads after left_after cross-after i (suc j)
refill_takes {p} sound {loads} {shares} {after} {left} {cross} {left_after} {cross-after} {i} {j} {amount} is_open_true now grown takes =
    record {
      crossing =
          rw (total_grown grown, cells_grown grown (own_zero inside below now))
          (fill_takes sound inside below is_open_true now.crossing takes);
      shut = λ k q h l more. shut k q h l more (grown_case grown k q h l);
      rest = λ q l. rest q l (ℕ_discrete q j);
      rows = λ k h. rows k h;
      unwritten = λ k q h l never. grown_after grown k q h l never ∙ now.unwritten k q h l (λ b. never (before_more k q i j b));
      greatest = λ k q h l b rival against agree. greatest k q h l rival against agree (before_next k q i j b);
    }
  where
    inside : i < p.intervals
    inside = grown.interval_below

    below : j < p.jobs
    below = grown.job_below

    shut : (k q : ℕ) → k < p.intervals → q < p.jobs → 0 < after k q → (after k q ≡ shares k q) ⊎ ((k ≡ i) × (q ≡ j)) → Open p k q
    shut k q h l more (inl same) = now.shut k q h l (omega arith)
    shut k q h l more (inr (there, its)) = rw (there, its) is_open_true

    rest : (q : ℕ) → q < p.jobs → Dec (q ≡ j) → placed_of p after q + left_after q ≡ p.cycles q
    rest q l (yes e) =
        let own : placed_of p after j ≡ placed_of p shares j + amount = rw (eq-eqb j j refl) at (grown_placed grown j below) in
        rw e (omega (arith, takes.here, now.rest j below))
    rest q l (no other) =
        let own : placed_of p after q ≡ placed_of p shares q + 0 = rw (ne_eqb q j other) at (grown_placed grown q l) in
        omega (arith, takes.others q other, now.rest q l)

    rows : (k : ℕ) → k < i → load_of p after k ≡ loads k
    rows k h =
        let own : load_of p after k ≡ load_of p shares k + 0 = rw (ne_eqb k i (λ e. omega arith)) at (grown_load grown k (omega arith)) in
        omega (arith, now.rows k h)

    here : (rival : Shares) → Rival p loads rival → Agree p i j rival shares → rival i j ≤ after i j
    here rival against agree = go takes.most
      where
        go : (left_after j ≡ 0) ⊎ ((b : ℕ) × (i < b) × (b < p.last j) × (cross-after b ≡ 0)) → rival i j ≤ after i j
        go (inl none) = omega (arith, within_left inside below now rival against agree, takes.here, grown.here)
        go (inr (b, late, early, none)) =
            omega (
              arith,
              within_cross inside below now rival against agree b late early (omega (arith, sound.inside j below)),
              takes.lowered.inside b late early,
              grown.here,
            )

    greatest : (k q : ℕ) → k < p.intervals → q < p.jobs → (rival : Shares) → Rival p loads rival → Agree p k q rival after
        → (Before k q i j) ⊎ ((k ≡ i) × (q ≡ j)) → rival k q ≤ after k q
    greatest k q h l rival against agree (inl b) =
        rw (grown_before grown k q h l b)
        (now.greatest k q h l b rival against (λ x y s t c. agree x y s t c ∙ grown_before grown x y s t (before_trans x y k q i j c b)))
    greatest k q h l rival against agree (inr (there, its)) =
        rw (there, its) (here rival against (λ x y s t c. agree x y s t (rw (there, its) c) ∙ grown_before grown x y s t c))

-- a cell whose job is not open is passed
pub refill_skips : {p : Problem} {loads : ℕ → ℕ} {shares : Shares} {left cross : ℕ → ℕ} {i j : ℕ} → i < p.intervals → j < p.jobs
    → (Open p i j → ⊥) → Refilling p loads shares left cross i j → Refilling p loads shares left cross i (suc j)
refill_skips {p} {loads} {shares} {left} {cross} {i} {j} inside below not_open now =
    record {
      crossing = fill_skips below not_open now.crossing;
      shut = now.shut;
      rest = now.rest;
      rows = now.rows;
      unwritten = λ k q h l never. now.unwritten k q h l (λ b. never (before_more k q i j b));
      greatest = λ k q h l b rival against agree. greatest k q h l rival against agree (before_next k q i j b);
    }
  where
    none : (rival : Shares) → Rival p loads rival → (rival i j ≡ 0) ⊎ (0 < rival i j) → rival i j ≤ shares i j
    none rival against (inl e) = omega arith
    none rival against (inr more) = absurd (not_open (against.serving.shut i j inside below more))

    greatest : (k q : ℕ) → k < p.intervals → q < p.jobs → (rival : Shares) → Rival p loads rival → Agree p k q rival shares
        → (Before k q i j) ⊎ ((k ≡ i) × (q ≡ j)) → rival k q ≤ shares k q
    greatest k q h l rival against agree (inl b) = now.greatest k q h l b rival against agree
    greatest k q h l rival against agree (inr (there, its)) = rw (there, its) (none rival against (eq-zero-or-pos (rival i j)))

-- a cell that takes nothing
nothing_grown : {p : Problem} (shares : Shares) {i j : ℕ} → i < p.intervals → j < p.jobs → Grown p shares shares i j 0
nothing_grown shares inside below =
    record { interval_below = inside; job_below = below; here = omega arith; other_interval = λ k h other. refl; other_job = λ k q h l other. refl }

module _ {p : Problem} (sound : SoundProblem p) {loads : ℕ → ℕ} {shares : Shares} {left cross : ℕ → ℕ} {i : ℕ} (inside : i < p.intervals) where
  -- a job that can take nothing is passed: none of it is left, or nothing must cross a bound before it is due
  refill_pass : {j : ℕ} → j < p.jobs → (Open p i j → (left j ≡ 0) ⊎ ((b : ℕ) × (i < b) × (b < p.last j) × (cross b ≡ 0)))
      → Refilling p loads shares left cross i j → Refilling p loads shares left cross i (suc j)
  refill_pass {j} below full now = go (lt_or_le i (p.last j)) (lt_or_le i (p.first j))
    where
      go : (i < p.last j) ⊎ (p.last j ≤ i) → (i < p.first j) ⊎ (p.first j ≤ i) → Refilling p loads shares left cross i (suc j)
      go (inr late) order = refill_skips inside below (λ o. omega (arith, o.to)) now
      go (inl to) (inl early) = refill_skips inside below (λ o. omega (arith, o.from)) now
      go (inl to) (inr from) =
          let is_open_true : Open p i j = record { from = from; to = to } in
          refill_takes sound is_open_true now (nothing_grown shares inside below)
          (record {
            here = omega arith;
            others = λ q other. refl;
            lowered = record { inside = λ b late early. omega arith; outside = λ b out. refl };
            most = full is_open_true;
          })

  -- and so are all such jobs one after another
  pub refill_passes : (more count : ℕ) → count + more ≤ p.jobs
      → ((q : ℕ) → count ≤ q → q < count + more → Open p i q → (left q ≡ 0) ⊎ ((b : ℕ) × (i < b) × (b < p.last q) × (cross b ≡ 0)))
      → Refilling p loads shares left cross i count → Refilling p loads shares left cross i (count + more)
  refill_passes zero count within full now = let e : count + 0 ≡ count = omega arith in rw e now
  refill_passes (suc more) count within full now =
      let e : count + suc more ≡ suc (count + more) = omega arith in
      rw e
      (refill_pass (omega arith) (full (count + more) (omega arith) (omega arith))
      (refill_passes more count (omega arith) (λ q from to. full q from (omega arith)) now))

-- all that is placed stands in the rows so far
total_rows : {p : Problem} {loads : ℕ → ℕ} {shares : Shares} {left cross : ℕ → ℕ} {i j : ℕ} → i < p.intervals → Refilling p loads shares left cross i j
    → total p shares ≡ sum i loads + load_of p shares i
unfolding sum
total_rows {p} {loads} {shares} {i = i} {j} inside now =
    let short : total p shares ≡ sum (suc i) (load_of p shares) =
    sum_shorter (suc i) p.intervals (load_of p shares) inside
    (λ k past h. sum_zero p.jobs (λ q l. now.unwritten k q h l (λ b. never k q past b))) in
    let same : sum i (load_of p shares) ≡ sum i loads = sum_cong i now.rows in
    omega arith
  where
    never : (k q : ℕ) → i < k → Before k q i j → ⊥
    never k q past (inl h) = omega arith
    never k q past (inr (e, h)) = omega arith

-- the end of an interval's row
pub refill_rows : {p : Problem} → SoundProblem p → {loads : ℕ → ℕ} {shares : Shares} {left cross : ℕ → ℕ} → Fillable p loads → {i : ℕ} → i < p.intervals
    → Refilling p loads shares left cross i p.jobs → Refilling p loads shares left cross (suc i) 0
unfolding sum
refill_rows {p} sound {loads} {shares} {left} {cross} fillable {i} inside now =
    let own : load_of p shares i ≡ loads i = omega (arith, row_placed sound fillable inside now.crossing, total_rows inside now) in
    record {
      crossing = row_next sound fillable inside now.crossing;
      shut = now.shut;
      rest = now.rest;
      rows = λ k h. rows own k (eq-or-lt_of_le (le_of_suc-le-suc h));
      unwritten = λ k q h l never. now.unwritten k q h l (λ b. never (later k q b));
      greatest = λ k q h l b. now.greatest k q h l (earlier k q l b);
    }
  where
    rows : load_of p shares i ≡ loads i → (k : ℕ) → (k ≡ i) ⊎ (k < i) → load_of p shares k ≡ loads k
    rows own k (inl e) = rw e own
    rows own k (inr h) = now.rows k h

    later : (k q : ℕ) → Before k q i p.jobs → Before k q (suc i) 0
    later k q (inl h) = inl (omega arith)
    later k q (inr (e, h)) = inl (omega arith)

    earlier : (k q : ℕ) → q < p.jobs → Before k q (suc i) 0 → Before k q i p.jobs
    earlier k q l (inr (e, h)) = absurd (omega arith)
    earlier k q l (inl h) = go (eq-or-lt_of_le (le_of_suc-le-suc h))
      where
        go : (k ≡ i) ⊎ (k < i) → Before k q i p.jobs
        go (inl e) = inr (e, l)
        go (inr s) = inl s

-- the end
pub refill_ends : {p : Problem} → SoundProblem p → {loads : ℕ → ℕ} {shares : Shares} {left cross : ℕ → ℕ}
    → Refilling p loads shares left cross p.intervals 0 → Refilled p loads shares
refill_ends {p} sound now =
    record {
      serving = record { shut = now.shut; whole = λ j l. omega (arith, now.rest j l, all_ended sound now.crossing j l) };
      loads_are = now.rows;
      few = few_cells now.crossing;
      greatest = λ k q h l. now.greatest k q h l (inl h);
    }
