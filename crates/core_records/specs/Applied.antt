-- What a record comes to.
use Rattle.std.specs.Prelude.{◌≡◌, true, false}
use Rattle.b2_base.specs.declared.extent.Extent.{Extent}
use Rattle.b2_types.specs.declared.record.RecordOf.{RecordOf}
use Rattle.b2_model.specs.Changes.{after_record}
use Rattle.b2_model.specs.State.{State}
use Rattle.b2_model.specs.Stored.{applies_change}
use Rattle.core_records.specs.declared.apply_record.Applied.{Applied}
use Rattle.core_records.specs.declared.apply_record.Applied.TheVariants as applied
use Rattle.core_records.specs.GivenUp.{AreGivenUp}

-- the record applies, and these are the state after it and the extents that it gives up; or it doesn't, and the
-- state is as it was
abbrev pub IsApplied : State Extent → RecordOf Extent → Applied → Type 0
IsApplied M r (applied.Done core freed) = (applies_change M r.change ≡ true) × (core ≡ after_record M r) × AreGivenUp r.change M core freed
IsApplied M r (applied.CannotApply core) = (applies_change M r.change ≡ false) × (core ≡ M)
