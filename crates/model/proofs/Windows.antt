-- Laws of windows: what the spare and overfull say; an overfull window gives one from a release to a later deadline
-- (T9); and what the search for the earliest overfull window finds.
-- Assumes nothing.
use mathlib.Core.Path.{◌≡◌, refl, sym, ◌∙◌, subst}
use mathlib.Core.Bool.{Bool, true, false, cond}
use mathlib.Core.Logic.{◌⊎◌, inl, inr, ◌↔◌}
use mathlib.Core.List.{List}
use mathlib.Core.Option.{Option, none, some}
use Prim.Native.Nat.{ℕ, zero, suc, ◌+◌, ◌-◌, ◌*◌, ◌<◌, ◌≤◌}
use native.Mathlib.Nat.{mul-le-mul_right}
use native.Mathlib.Omega.{arith}
use lib.ListN.{length}
use lib.IntN.{ℤ, pos, negsuc, ◌-ℤ◌}
use lib.Dec.{ltb, leb}
use borrow.Author.Tests.{ltb-true, ltb-false, lt-ltb, leb-true, le-leb}
use Rattle.model.specs.declared.Job.{Job}
use Rattle.model.specs.Sum.{only_if}
use Rattle.model.specs.Jobs.{job_of}
use Rattle.model.specs.Search.{some_below}
use Rattle.model.specs.Windows.{Window, is_inside, cycles_inside, spare_of, is_overfull}
use Rattle.model.specs.Windows.{overfull_to, earliest_start, earliest_end, window_to, window_from, earliest_overfull}
use Rattle.model.proofs.Numbers.{true_or_false, true≢false, both_true}
use Rattle.model.proofs.Sum.{sum_mono, sum_pos}
use Rattle.model.proofs.SumMore.{only_if_mono}
use Rattle.model.proofs.Search.{some_below_found, some_below_holds, LeastBelow, least_below_found, least_below_fails, least_index}

pub inside_iff : (start end : ℕ) (job : Job) → (is_inside start end job ≡ true) ↔ ((start ≤ job.release) × (job.deadline ≤ end))
inside_iff start end job = (
  λ e.
      let tests = both_true (leb start job.release) (leb job.deadline end) e in
      (leb-true start job.release tests.0, leb-true job.deadline end tests.1),
  λ h. rw (le-leb start job.release h.0) (le-leb job.deadline end h.1),
)

-- the integer is a - b
abbrev pub Difference : (a b : ℕ) → ℤ → Type 0
Difference a b (pos n) = a ≡ b + n
Difference a b (negsuc n) = b ≡ a + suc n

minus_difference : (a b : ℕ) → Difference a b (pos a -ℤ pos b)
minus_difference a zero = omega arith
minus_difference a (suc b) = go (ltb a (suc b)) (ltb-true a (suc b)) (ltb-false a (suc b))
  where
    go : (t : Bool) → (t ≡ true → a < suc b) → (t ≡ false → suc b ≤ a) → Difference a (suc b) (cond t (negsuc (suc b - suc a)) (pos (a - suc b)))
    go true less more = omega (arith, less refl)
    go false less more = omega (arith, more refl)

difference_unique : (a b : ℕ) (y z : ℤ) → Difference a b y → Difference a b z → y ≡ z
difference_unique a b (pos m) (pos n) d e = let same : m ≡ n = omega arith in rw same
difference_unique a b (pos m) (negsuc n) d e = absurd (omega arith)
difference_unique a b (negsuc m) (pos n) d e = absurd (omega arith)
difference_unique a b (negsuc m) (negsuc n) d e = let same : m ≡ n = omega arith in rw same

-- a window that has all the jobs inside that another has, has their cycles
cycles_from : (jobs : List Job) (start end first last : ℕ)
    → ((j : ℕ) → j < length jobs → is_inside start end (job_of jobs j) ≡ true → is_inside first last (job_of jobs j) ≡ true)
    → cycles_inside jobs start end ≤ cycles_inside jobs first last
unfolding cycles_inside
cycles_from jobs start end first last also = sum_mono (length jobs) (λ j below. only_if_mono _ _ _ (also j below))

-- the window from the release of job j to the deadline of job k, which is later, is overfull
pub record OverfullBetween (top : ℕ) (jobs : List Job) (j k : ℕ) : Type 0 where
  pub from : j < length jobs
  pub to : k < length jobs
  pub later : (job_of jobs j).release < (job_of jobs k).deadline
  pub overfull : is_overfull top jobs (job_of jobs j).release (job_of jobs k).deadline ≡ true

-- what the search for the earliest overfull window finds
pub record EarliestOverfull (top : ℕ) (jobs : List Job) (w : Window) : Type 0 where
  pub release : (j : ℕ) × (j < length jobs) × ((job_of jobs j).release ≡ w.start)
  pub deadline : (k : ℕ) × (k < length jobs) × ((job_of jobs k).deadline ≡ w.end)
  pub later : w.start < w.end
  pub overfull : is_overfull top jobs w.start w.end ≡ true
  pub earliest-start : (j k : ℕ) → OverfullBetween top jobs j k → w.start ≤ (job_of jobs j).release
  pub earliest-end : (k : ℕ) → k < length jobs → w.start < (job_of jobs k).deadline
      → is_overfull top jobs w.start (job_of jobs k).deadline ≡ true → w.end ≤ (job_of jobs k).deadline

module _ (top : ℕ) (jobs : List Job) where
  module _ (start end : ℕ) where
    pub overfull_iff : (is_overfull top jobs start end ≡ true) ↔ ((end - start) * top < cycles_inside jobs start end)
    unfolding is_overfull
    overfull_iff = (ltb-true _ _, lt-ltb _ _)

    pub spare_iff : (z : ℤ) → (spare_of top jobs start end ≡ z) ↔ Difference ((end - start) * top) (cycles_inside jobs start end) z
    unfolding spare_of
    spare_iff z =
        let room : ℕ = (end - start) * top in
        let need : ℕ = cycles_inside jobs start end in (
          λ e. rw e at (minus_difference room need),
          λ d. difference_unique room need (pos room -ℤ pos need) z (minus_difference room need) d,
        )

    -- the spare is negative exactly when the window is overfull
    pub spare_negative : (is_overfull top jobs start end ≡ true) ↔ ((n : ℕ) × (spare_of top jobs start end ≡ negsuc n))
    spare_negative = (
      λ e.
          let n : ℕ = cycles_inside jobs start end - suc ((end - start) * top) in
          (n, (spare_iff (negsuc n)).1 (omega (arith, overfull_iff.0 e))),
      λ r. overfull_iff.1 (omega (arith, (spare_iff (negsuc r.0)).0 r.1)),
    )

    -- an overfull window has a job inside
    overfull_has_job : is_overfull top jobs start end ≡ true → (j : ℕ) × (j < length jobs) × (is_inside start end (job_of jobs j) ≡ true)
    unfolding cycles_inside
    overfull_has_job over =
        let term : ℕ → ℕ = λ j. only_if (is_inside start end (job_of jobs j)) (job_of jobs j).cycles in
        let (j, below, more) = sum_pos (length jobs) term (omega (arith, overfull_iff.0 over)) in
        (j, below, holds (is_inside start end (job_of jobs j)) (job_of jobs j).cycles more)
      where
        holds : (t : Bool) (n : ℕ) → 0 < only_if t n → t ≡ true
        holds true n more = refl
        holds false n more = absurd (omega arith)

  -- a window is overfull as soon as a longer one is that has no other jobs inside
  overfull_shrinks : (start end first last : ℕ) → start ≤ first → last ≤ end
      → ((j : ℕ) → j < length jobs → is_inside start end (job_of jobs j) ≡ true → is_inside first last (job_of jobs j) ≡ true)
      → is_overfull top jobs start end ≡ true → is_overfull top jobs first last ≡ true
  overfull_shrinks start end first last from to same over =
      let shorter : last - first ≤ end - start = omega arith in
      let cycles = cycles_from jobs start end first last same in
      (overfull_iff first last).1 (omega (arith, (overfull_iff start end).0 over, mul-le-mul_right top shorter))

  overfull_to_iff : (start k : ℕ)
      → (overfull_to top jobs start k ≡ true)
      ↔ ((start < (job_of jobs k).deadline) × (is_overfull top jobs start (job_of jobs k).deadline ≡ true))
  unfolding overfull_to
  overfull_to_iff start k = (
    λ e.
        let tests = both_true (ltb start (job_of jobs k).deadline) (is_overfull top jobs start (job_of jobs k).deadline) e in
        (ltb-true start (job_of jobs k).deadline tests.0, tests.1),
    λ h. rw (lt-ltb start (job_of jobs k).deadline h.0) h.1,
  )

  abbrev EarliestAnswer : Option Window → Type 0
  EarliestAnswer none = (j k : ℕ) → OverfullBetween top jobs j k → ⊥
  EarliestAnswer (some w) = EarliestOverfull top jobs w

  earliest_answer : EarliestAnswer (earliest_overfull top jobs)
  unfolding earliest_overfull earliest_start earliest_end
  earliest_answer = start_found (earliest_start top jobs) refl
    where
      starts : ℕ → Bool
      starts j = some_below (length jobs) (overfull_to top jobs (job_of jobs j).release)

      from_start : (j k : ℕ) → OverfullBetween top jobs j k → starts j ≡ true
      from_start j k law =
          some_below_holds (length jobs) (overfull_to top jobs (job_of jobs j).release) k law.to
          ((overfull_to_iff (job_of jobs j).release k).1 (law.later, law.overfull))

      end_found : (start : ℕ) → LeastBelow (length jobs) (λ j. (job_of jobs j).release) starts start
          → (end : Option ℕ) → earliest_end top jobs start ≡ end → EarliestAnswer (window_to start end)
      end_found start least none e =
          let (j, below, passes, is) = least.found in
          let (k, inside, over) = some_below_found (length jobs) (overfull_to top jobs start) (rw is at passes) in
          let fails = least_below_fails (length jobs) (λ k. (job_of jobs k).deadline) (overfull_to top jobs start) e k inside in
          absurd (true≢false (sym over ∙ fails))
      end_found start least (some end) e =
          let law = least_below_found (length jobs) (λ k. (job_of jobs k).deadline) (overfull_to top jobs start) end e in
          let (j, below, passes, is) = least.found in
          let (k, inside, over, ends) = law.found in
          let tests = (overfull_to_iff start k).0 over in
          record {
            release = (j, below, is);
            deadline = (k, inside, ends);
            later = omega (arith, tests.0);
            overfull = rw ends at tests.1;
            earliest-start = λ j k between. least.lowest j between.from (from_start j k between);
            earliest-end = λ k h later full. law.lowest k h ((overfull_to_iff start k).1 (later, full));
          }

      start_found : (start : Option ℕ) → earliest_start top jobs ≡ start → EarliestAnswer (window_from (earliest_end top jobs) start)
      start_found none e =
          let fails = least_below_fails (length jobs) (λ j. (job_of jobs j).release) starts e in
          λ j k law. true≢false (sym (from_start j k law) ∙ fails j law.from)
      start_found (some start) e =
          end_found start (least_below_found (length jobs) (λ j. (job_of jobs j).release) starts start e)
          (earliest_end top jobs start) refl

  pub earliest_overfull_found : (w : Window) → earliest_overfull top jobs ≡ some w → EarliestOverfull top jobs w
  earliest_overfull_found w e = rw e at earliest_answer

  -- what the theory asks of jobs here: released before their deadlines
  module _ (ordered : (j : ℕ) → j < length jobs → (job_of jobs j).release < (job_of jobs j).deadline) where
    -- T9: shrink an overfull window to its own jobs, from the earliest release to the latest deadline
    pub overfull_between_jobs : (start end : ℕ) → is_overfull top jobs start end ≡ true → (j k : ℕ) × OverfullBetween top jobs j k
    overfull_between_jobs start end over =
        let inside : ℕ → Bool = λ j. is_inside start end (job_of jobs j) in
        let (i, below, within) = overfull_has_job start end over in
        let (j, j-below, j-inside, earliest) = least_index (length jobs) (λ j. (job_of jobs j).release) inside i below within in
        let (k, k-below, k-inside, latest) = least_index (length jobs) (λ k. end - (job_of jobs k).deadline) inside i below within in (
          j,
          k,
          record {
            from = j-below;
            to = k-below;
            later = omega (arith, ordered k k-below, earliest k k-below k-inside);
            overfull =
                overfull_shrinks start end (job_of jobs j).release (job_of jobs k).deadline
                ((inside_iff start end (job_of jobs j)).0 j-inside).0
                ((inside_iff start end (job_of jobs k)).0 k-inside).1
                (λ l h p.
                let l-ends = ((inside_iff start end (job_of jobs l)).0 p).1 in
                let k-ends = ((inside_iff start end (job_of jobs k)).0 k-inside).1 in
                (inside_iff (job_of jobs j).release (job_of jobs k).deadline (job_of jobs l)).1 (earliest l h p, omega (arith, latest l h p)))
                over;
          },
        )

    pub earliest_overfull_none : earliest_overfull top jobs ≡ none → (start end : ℕ) → is_overfull top jobs start end ≡ false
    earliest_overfull_none e start end = go (true_or_false (is_overfull top jobs start end))
      where
        go : (is_overfull top jobs start end ≡ true) ⊎ (is_overfull top jobs start end ≡ false) → is_overfull top jobs start end ≡ false
        go (inl over) =
            let (j, k, between) = overfull_between_jobs start end over in
            absurd ((subst EarliestAnswer e earliest_answer) j k between)
        go (inr not-over) = not-over

    pub earliest_overfull_exists : (start end : ℕ) → is_overfull top jobs start end ≡ true → (w : Window) × (earliest_overfull top jobs ≡ some w)
    earliest_overfull_exists start end over = go (earliest_overfull top jobs) refl
      where
        go : (found : Option Window) → earliest_overfull top jobs ≡ found → (w : Window) × (earliest_overfull top jobs ≡ some w)
        go none e = absurd (true≢false (sym over ∙ earliest_overfull_none e start end))
        go (some w) e = (w, e)
