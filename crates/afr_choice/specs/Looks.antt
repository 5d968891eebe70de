-- What the bricks showed of one object, look by look.
use Rattle.std.specs.Prelude.{ℕ, [], ◌∷◌, Option, None, Some, slice_set, slice_index_or}
use Rattle.afr_base.specs.Bricks.{added, removed}
use Rattle.afr_object.specs.declared.entry.View.{View}
use Rattle.afr_choice.specs.declared.looked.Looked.{Looked}

-- nobody was looked at
abbrev pub no_looks : Looked
no_looks = record { reached = []; views = None ∷ None ∷ None ∷ None ∷ None ∷ [] }

-- brick b answered a look with this view
abbrev pub with_look : ℕ → Option View → Looked → Looked
with_look b view looked = record { reached = added b looked.reached; views = slice_set looked.views b view }

-- brick b didn't answer its look
abbrev pub without_look : ℕ → Looked → Looked
without_look b looked = record { reached = removed b looked.reached; views = slice_set looked.views b None }

-- what brick b showed
abbrev pub view_at : ℕ → Looked → Option View
view_at b looked = slice_index_or looked.views b None

-- what each brick showed
abbrev pub views_of : Looked → ℕ → Option View
views_of looked x = view_at x looked

-- the length in a view
abbrev pub len_in : Option View → ℕ
len_in None = 0
len_in (Some view) = view.len
