-- What a command gave, by the text behind `ok` and by the command.
use Rattle.std.specs.Prelude.{ℕ, ◌==◌, ◌++◌, not, Bool, List, [], ◌∷◌, Option, Some, None, codes, filter, map, option_map, if◌then◌else◌}
use Rattle.std.specs.List.{list_any}
use Rattle.std.specs.Str.{bytes_eq}
use Rattle.afr_base.specs.declared.ids.NameId.{NameId}
use Rattle.afr_base.specs.declared.ids.What.TheVariants.{File}
use Rattle.afr_lines.specs.declared.reply.Good.{Good}
use Rattle.afr_lines.specs.declared.reply.Good.TheVariants as good
use Rattle.afr_object.specs.declared.entry.Entry.{Entry}
use Rattle.afr_plan.specs.Data.{hex_bytes}
use Rattle.afr_plan.specs.Reading.{or_else, whole}
use Rattle.afr_plan.specs.declared.command.Command.{Command}
use Rattle.afr_plan.specs.declared.command.Command.TheVariants as command
use Rattle.afr_plan.specs.declared.plan.Plan.{Plan}
use Rattle.afr_trace_read.specs.Contents.{digits_at, names_told, stat_at, value_given_at}

-- ---- names with their entries
-- the entry of a name that wasn't listed
abbrev pub unlisted : NameId → NameId × Entry
unlisted name = (name, record { gfid = record { 0 = 0 }; what = File })

-- whether a name is one of these
abbrev pub is_told : List NameId → NameId → Bool
is_told names name = list_any (λ x. x.0 == name.0) names

-- whether a name was listed
abbrev pub is_listed : List (NameId × Entry) → NameId → Bool
is_listed listed name = list_any (λ x. x.0.0 == name.0) listed

-- the names of a text, each with the entry that was listed; those that weren't listed stand last, with gfid 0
abbrev pub with_entries : List (NameId × Entry) → List NameId → List (NameId × Entry)
with_entries listed names = filter (λ x. is_told names x.0) listed ++ map unlisted (filter (λ name. not (is_listed listed name)) names)

-- ---- the forms
-- bytes
abbrev pub as_bytes : List ℕ → Option Good
as_bytes text = option_map (λ (digits : List ℕ). good.Bytes (hex_bytes digits)) (whole digits_at text)

-- a value
abbrev pub as_value : Plan → List ℕ → Option Good
as_value p text = option_map good.Value (whole (value_given_at p) text)

-- a stat
abbrev pub as_stat : List ℕ → Option Good
as_stat text = option_map (λ (x : Entry × ℕ). good.Stat x.0 x.1) (whole stat_at text)

-- the names of a list, or none at a dash
abbrev pub names_in_text : Plan → List ℕ → Option (List NameId)
names_in_text p text = if bytes_eq text (codes " -") then Some [] else names_told p None text

-- names
abbrev pub as_names : Plan → List (NameId × Entry) → List ℕ → Option Good
as_names p listed text = option_map (λ (names : List NameId). good.Names (with_entries listed names)) (names_in_text p text)

-- the form of what the actor's present command gives
abbrev pub by_command : Plan → Option Command → List (NameId × Entry) → List ℕ → Option Good
by_command p (Some (command.Ls path)) listed text = as_names p listed text
by_command p (Some (command.Stat path)) listed text = as_stat text
by_command p (Some (command.GetAttr path key)) listed text = as_value p text
by_command p other listed text = as_bytes text

-- the first form that the text has
abbrev pub by_any : Plan → List (NameId × Entry) → List ℕ → Option Good
by_any p listed text = or_else (as_bytes text) (or_else (as_value p text) (or_else (as_stat text) (as_names p listed text)))

-- nothing was given where the text has none of the forms
abbrev pub or_done : Option Good → Good
or_done None = good.Done
or_done (Some given) = given

-- what stands behind `ok`: what the present command gives, where the text has the form of that, else the first form that it has
abbrev pub good_from : Plan → Option Command → List (NameId × Entry) → List ℕ → Good
good_from p c listed [] = good.Done
good_from p c listed (b ∷ bs) = or_done (or_else (by_command p c listed (b ∷ bs)) (by_any p listed (b ∷ bs)))
