-- The object and the kind of a change: by positions, and by the list of lines.
use Rattle.std.proofs.Common.{◌≡◌, refl}
use Rattle.afr_object.specs.Tables.{object_of}
use Rattle.afr_object.specs.declared.change.Change.{Change}
use Rattle.afr_object.specs.declared.change.Change.TheVariants.{Write, Cut, SetAttr, Make, Remove}
use Rattle.afr_lines.specs.Areas.{kind_for}
use Rattle.afr_model_moves.specs.Honest.{plane_kind}
use Rattle.afr_model_moves.specs.Past.{object}

pub object_same : (c : Change) → object c ≡ (object_of c).0
object_same (Write g at bytes) = refl
object_same (Cut g len) = refl
object_same (SetAttr g key value) = refl
object_same (Make dir name g what) = refl
object_same (Remove dir name what) = refl

pub kind_same : (c : Change) → plane_kind c ≡ kind_for c
kind_same (Write g at bytes) = refl
kind_same (Cut g len) = refl
kind_same (SetAttr g key value) = refl
kind_same (Make dir name g what) = refl
kind_same (Remove dir name what) = refl
