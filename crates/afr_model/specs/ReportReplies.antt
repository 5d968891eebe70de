-- The texts of replies.
use Rattle.std.specs.Prelude.{ℕ, ◌+◌, ◌-◌, ◌/◌, ◌%◌, ◌==◌, nat_lt, Bool, true, false, List, [], ◌∷◌, ◌++◌, Option, Some, None, codes, decimal, flat_map, map, slice_index_or, if◌then◌else◌}
use Rattle.afr_base.specs.Text.{gfid_spelling}
use Rattle.afr_base.specs.declared.ids.ActorId.{ActorId}
use Rattle.afr_base.specs.declared.ids.Kind.{Kind}
use Rattle.afr_base.specs.declared.ids.Kind.TheVariants.{Bytes, Attrs, Names}
use Rattle.afr_base.specs.declared.ids.NameId.{NameId}
use Rattle.afr_base.specs.declared.ids.ValueId.{ValueId}
use Rattle.afr_base.specs.declared.ids.What.{What}
use Rattle.afr_base.specs.declared.ids.What.TheVariants.{File, Dir}
use Rattle.afr_object.specs.declared.entry.Entry.{Entry}
use Rattle.afr_lines.specs.declared.reply.Good.{Good}
use Rattle.afr_lines.specs.declared.reply.Good.TheVariants as good
use Rattle.afr_lines.specs.declared.reply.HealReply.{HealReply}
use Rattle.afr_lines.specs.declared.reply.HealReply.TheVariants as healed
use Rattle.afr_lines.specs.declared.reply.Reply.{Reply}
use Rattle.afr_lines.specs.declared.reply.Reply.TheVariants as reply
use Rattle.afr_plan.specs.declared.plan.Words.{Words}

-- a lower-case hexadecimal digit
abbrev pub hex_digit : ℕ → ℕ
hex_digit d = if nat_lt d 10 then 48 + d else 87 + d

-- a byte as two digits
abbrev pub hex_pair : ℕ → List ℕ
hex_pair b = hex_digit (b / 16) ∷ hex_digit (b % 16) ∷ []

-- bytes as digits
abbrev pub hex_text : List ℕ → List ℕ
hex_text bytes = flat_map hex_pair bytes

-- what a read gave: its bytes in hexadecimal digits, or a dash where there are none
abbrev pub bytes_text : List ℕ → List ℕ
bytes_text [] = codes "ok -"
bytes_text (b ∷ bs) = codes "ok " ++ hex_text (b ∷ bs)

-- ---- names in the order of their bytes
-- whether a text stands before another: where they first differ its byte is lower, or it ends
abbrev pub precedes : List ℕ → List ℕ → Bool
precedes [] t = true
precedes (x ∷ s) [] = false
precedes (x ∷ s) (y ∷ t) = if x == y then precedes s t else nat_lt x y

-- a text in its place
abbrev pub placed : List ℕ → List (List ℕ) → List (List ℕ)
placed s [] = s ∷ []
placed s (t ∷ more) = if precedes s t then s ∷ t ∷ more else t ∷ placed s more

-- texts in the order of their bytes
abbrev pub in_order : List (List ℕ) → List (List ℕ)
in_order [] = []
in_order (s ∷ more) = placed s (in_order more)

-- ---- what a command gave
-- the text of each name of a list
abbrev pub name_texts : Words → List (NameId × Entry) → List (List ℕ)
name_texts words names = map (λ x. slice_index_or words.names x.0.0 []) names

-- names after spaces, or a dash where there are none
abbrev pub names_text : List (List ℕ) → List ℕ
names_text [] = codes "ok -"
names_text (s ∷ more) = codes "ok" ++ flat_map (λ t. codes " " ++ t) (s ∷ more)

-- the value of an attribute, or a dash where it has none
abbrev pub value_text : Words → Option ValueId → List ℕ
value_text words None = codes "ok -"
value_text words (Some value) = codes "ok " ++ slice_index_or words.values value.0 []

-- the length of a file; a directory has none
abbrev pub len_text : What → ℕ → List ℕ
len_text File len = codes " " ++ decimal len
len_text Dir len = []

-- a file or a directory
abbrev pub what_text : What → List ℕ
what_text File = codes "ok file "
what_text Dir = codes "ok dir "

-- what a stat gives: file or directory, its gfid, and a file's length
abbrev pub stat_text : Entry → ℕ → List ℕ
stat_text entry len = what_text entry.what ++ gfid_spelling entry.gfid.0 ++ len_text entry.what len

-- what a command that was carried out gave
abbrev pub good_text : Words → Good → List ℕ
good_text words good.Done = codes "ok"
good_text words (good.Bytes bytes) = bytes_text bytes
good_text words (good.Names names) = names_text (in_order (name_texts words names))
good_text words (good.Value value) = value_text words value
good_text words (good.Stat entry len) = stat_text entry len

-- the word of a reply
abbrev pub reply_text : Words → Reply → List ℕ
reply_text words (reply.Ok given) = good_text words given
reply_text words reply.NoEntry = codes "no-entry"
reply_text words reply.Exists = codes "exists"
reply_text words reply.NotDir = codes "not-dir"
reply_text words reply.IsDir = codes "is-dir"
reply_text words reply.NotEmpty = codes "not-empty"
reply_text words reply.NoQuorum = codes "no-quorum"
reply_text words reply.FewCopies = codes "few-copies"
reply_text words (reply.SplitBrain views) = codes "split-brain"
reply_text words reply.Failed = codes "failed"
reply_text words reply.TooLarge = codes "too-large"
reply_text words reply.Half = codes "half"

-- ---- heals
-- an actor: a client or a healer
abbrev pub actor_text : ActorId → List ℕ
actor_text a = if nat_lt 16 a.0 then codes "h" ++ decimal (a.0 - 16) else codes "c" ++ decimal a.0

-- the word of a kind
abbrev pub kind_text : Kind → List ℕ
kind_text Bytes = codes "data"
kind_text Attrs = codes "metadata"
kind_text Names = codes "entry"

-- the words of a heal's reply
abbrev pub heal_text : HealReply → List ℕ
heal_text healed.Nothing = codes "nothing"
heal_text healed.Settled = codes "settled"
heal_text (healed.Split views) = codes "split"
heal_text (healed.Busy owner) = codes "busy " ++ actor_text owner
heal_text healed.Short = codes "short"
heal_text (healed.Moved b) = codes "moved " ++ decimal b.0
heal_text healed.Failed = codes "failed"

-- a heal's line of the report: none where there was nothing to heal
abbrev pub is_nothing_healed : HealReply → Bool
is_nothing_healed healed.Nothing = true
is_nothing_healed other = false
