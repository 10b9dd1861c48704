-- A disk that holds bytes alone: a crash leaves what a read gives, and of earlier moments it tells nothing.
use Rattle.std.specs.Prelude.{◌≡◌}
use Rattle.std.proofs.Common.{sym, ◌∙◌}
use Rattle.disk_model.specs.declared.area.DiskImage.{DiskImage}
use Rattle.disk_model.specs.State.{DiskState}

abbrev pub flat_state : DiskImage → DiskState
flat_state image = record {
  reads = λ m. m ≡ image;
  may_leave = λ c. c ≡ image;
  moment = 0;
  left_since = λ t c. c ≡ image;
  remembers = ⊥;
  one_image = λ m n is also. is ∙ sym also;
  read_left = λ m is. is;
  counts_now = λ t c le now. now;
  only_now = λ c left. left;
}
