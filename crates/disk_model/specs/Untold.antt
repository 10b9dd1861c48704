-- A disk that tells nothing of itself, as one over real files: no image is read of it, and none is named that it may leave.
use Rattle.disk_model.specs.State.{DiskState}

abbrev pub untold : DiskState
untold = record {
  reads = λ m. ⊥;
  may_leave = λ c. ⊥;
  moment = 0;
  left_since = λ t c. ⊥;
  remembers = ⊥;
  one_image = λ m n is also. absurd is;
  read_left = λ m is. absurd is;
  counts_now = λ t c le now. absurd now;
  only_now = λ c left. absurd left;
}
