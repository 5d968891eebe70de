-- The sets of a look by its views alone, whoever was reached.
use Rattle.std.specs.Prelude.{ℕ, List, filter}
use Rattle.afr_base.specs.Bricks.{all_five}
use Rattle.afr_base.specs.declared.ids.Kind.{Kind}
use Rattle.afr_base.specs.declared.ids.Shape.{Shape}
use Rattle.afr_model_moves.specs.Keeps.{keeps_in}
use Rattle.afr_model_moves.specs.Register.{good, holder}
use Rattle.afr_choice.specs.Looks.{views_of}
use Rattle.afr_choice.specs.declared.looked.Looked.{Looked}

-- the bricks that showed a copy
abbrev pub shown_of : Looked → List ℕ
shown_of looked = filter (holder (views_of looked)) all_five

-- the copies that no view accuses
abbrev pub good_shown : Shape → Looked → Kind → List ℕ
good_shown shape looked kind = filter (good shape.n (keeps_in shape) kind (views_of looked)) all_five
