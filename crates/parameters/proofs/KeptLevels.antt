-- Laws of a level table in arrays up to the highest running level allowed.
-- Assumes nothing.
use mathlib.Core.Path.{◌≡◌, sym, ◌∙◌, ap}
use mathlib.Core.Bool.{cond}
use mathlib.Core.List.{List}
use Prim.Native.Nat.{ℕ, ◌+◌, ◌-◌, ◌<◌, ◌≤◌}
use native.Mathlib.Omega.{arith}
use lib.Dec.{eqb}
use lib.ListN.{length, get_or, take}
use lib.Seq.{length-take-le, get_or-take, ext_get_or}
use borrow.Author.Tests.{le-leb, lt-leb}
use Rattle.std.specs.Prelude.{Result, Ok, Err}
use Rattle.model.specs.declared.refusal.Refusal.{Refusal}
use Rattle.model.specs.declared.Level.{Level}
use Rattle.model.specs.Outcome.{answer}
use Rattle.model.specs.Levels.{idling}
use Rattle.model.specs.LevelTables.{idle_entries, running_levels, ValidLevelTable}
use Rattle.model.specs.Refusals.{refusal}
use Rattle.model.specs.SiteParameters.{alter_levels}
use Rattle.model.proofs.LevelTables.{idle_few, running_length}
use Rattle.model.proofs.SiteParameters.{levels_altered, altered_are_valid}
use Rattle.model.proofs.Refusals.{RefusedBy, returned_refused}
use Rattle.reading.specs.Tables.{returned_count}
use Rattle.reading.proofs.ByEntry.{reading_held}
use Rattle.level_tables.specs.Tables.{levels_in}
use Rattle.level_tables.proofs.Read.{length_levels_in, level_in}

module _ (count : ℕ) (frequencies voltages : List ℕ) (some : 1 ≤ count) where
  abbrev entries : List Level
  entries = levels_in count frequencies voltages

  -- the first frequency tells whether there is an idle entry
  pub idle_in : (idle : ℕ) → idle ≡ cond (eqb (get_or frequencies 0 0) 0) 1 0 → idle_entries entries ≡ idle
  idle_in idle told = ap (λ (level : Level). cond (eqb level.frequency 0) 1 0) (level_in count frequencies voltages 0 some) ∙ sym told

  running_in : length (running_levels entries) ≡ count - idle_entries entries
  running_in = rw (length_levels_in count frequencies voltages) at (running_length entries)

  pub counted : (idle : ℕ) → idle ≡ cond (eqb (get_or frequencies 0 0) 0) 1 0 → count - idle ≡ length (running_levels entries)
  counted idle told = sym (running_in ∙ ap (λ (n : ℕ). count - n) (idle_in idle told))

  module _ (highest : ℕ) where
    -- 35: no level, or more than there are
    pub none_allowed : highest < 1 → Err (refusal 35 0) ≡ returned_count (alter_levels highest entries)
    unfolding alter_levels
    none_allowed low = rw (lt-leb 1 highest low)

    module _ (low : 1 ≤ highest) (idle : ℕ) (told : idle ≡ cond (eqb (get_or frequencies 0 0) 0) 1 0) where
      pub too_high : count < idle + highest → Err (refusal 35 0) ≡ returned_count (alter_levels highest entries)
      unfolding alter_levels
      too_high past =
          let few : idle ≤ 1 = rw (idle_in idle told) at (idle_few entries) in
          let above : length (running_levels entries) < highest = omega (arith, counted idle told) in
          rw (le-leb 1 highest low, lt-leb highest (length (running_levels entries)) above)

      pub allowed : idle + highest ≤ count → Ok (idle + highest) ≡ returned_count (alter_levels highest entries)
      unfolding alter_levels
      allowed inside =
          let upto : highest ≤ length (running_levels entries) = omega (arith, counted idle told) in
          let many : idle_entries entries + highest ≤ length entries =
          rw (idle_in idle told, length_levels_in count frequencies voltages) inside in
          rw (
            le-leb 1 highest low,
            le-leb highest (length (running_levels entries)) upto,
            length-take-le (idle_entries entries + highest) entries many,
            idle_in idle told,
          )

-- The first entries in arrays are the first of the entries in arrays.
take_levels_in : (kept count : ℕ) (frequencies voltages : List ℕ) → kept ≤ count
    → take kept (levels_in count frequencies voltages) ≡ levels_in kept frequencies voltages
take_levels_in kept count frequencies voltages few =
    let size : length (take kept (levels_in count frequencies voltages)) ≡ kept =
    length-take-le kept (levels_in count frequencies voltages) (rw (length_levels_in count frequencies voltages) few) in
    ext_get_or idling _ _ (size ∙ sym (length_levels_in kept frequencies voltages))
    (λ i below.
    let inside : i < kept = rw size at below in
    get_or-take kept (levels_in count frequencies voltages) i idling inside
    ∙ level_in count frequencies voltages i (omega arith)
    ∙ sym (level_in kept frequencies voltages i inside))

-- what a caller that was told how many are kept, or the refusal, knows of the altered table
module _ (count : ℕ) (frequencies voltages : List ℕ) (highest : ℕ) (result : Result ℕ Refusal)
    (told : result ≡ returned_count (alter_levels highest (levels_in count frequencies voltages))) where
  pub levels_kept : (kept : ℕ) → result ≡ Ok kept → alter_levels highest (levels_in count frequencies voltages) ≡ answer (levels_in kept frequencies voltages)
  levels_kept kept e =
      reading_held _ kept (levels_in kept frequencies voltages) (sym told ∙ e)
      (λ levels altered size.
      let given : List Level = levels_in count frequencies voltages in
      let law = (levels_altered highest given levels).0 altered in
      let first : ℕ = idle_entries given + highest in
      let enough : first ≤ length given = omega (arith, running_length given, law.highest_low, law.highest_high) in
      let same : first ≡ kept = sym (length-take-le first given enough) ∙ ap length (sym law.entries_are) ∙ size in
      let few : kept ≤ count = omega (arith, same, enough, length_levels_in count frequencies voltages) in
      sym (take_levels_in kept count frequencies voltages few) ∙ ap (λ (n : ℕ). take n given) (sym same) ∙ sym law.entries_are)

  pub kept_valid : ValidLevelTable (levels_in count frequencies voltages) → (kept : ℕ) → result ≡ Ok kept → ValidLevelTable (levels_in kept frequencies voltages)
  kept_valid valid kept e = altered_are_valid.0 highest _ _ valid (levels_kept kept e)

  pub levels_limited : (own : Refusal) → result ≡ Err own → RefusedBy (alter_levels highest (levels_in count frequencies voltages)) own
  levels_limited own e = returned_refused length _ own (sym told ∙ e)
