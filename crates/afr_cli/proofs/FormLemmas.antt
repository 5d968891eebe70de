-- Which forms read a plan, and the plan of each; a load and a replay are no other forms.
use Rattle.std.proofs.Common.{◌≡◌, ◌⊎◌, inl, inr, ◌==◌, ◌∙◌, sym, refl, ap, ℕ, List, [], ◌∷◌, codes, true, false, Option, length, arith}
use Rattle.std.specs.Prelude.{String, decimal, map, string_bytes}
use Rattle.std.proofs.lemmas.Fmt.{decimal_injective}
use Rattle.std.specs.Global.{Global}
use Rattle.afr_plan.specs.declared.plan.Plan.{Plan}
use Rattle.afr_words.specs.Forms.{AreWordsOf, AskFor}
use Rattle.afr_words.specs.declared.form.Form.{Form}
use Rattle.afr_words.specs.declared.form.Form.TheVariants as kind
use Rattle.afr_cli.specs.Forms.{is_replay, reads}
use Rattle.afr_cli.specs.Replay.{AreReplay}
use Rattle.afr_cli.specs.Statuses.{IsPlanOf, IsSpelled}

-- a form that reads is one word, and the others are two
reads_by_count : (form : Form) (texts : List (List ℕ)) → AreWordsOf form texts → reads form ≡ (length texts == 1)
reads_by_count kind.Run texts are = rw are refl
reads_by_count kind.Trace texts are = rw are refl
reads_by_count kind.Info texts are = rw are refl
reads_by_count (kind.Gen n) texts are = rw are.0 refl
reads_by_count (kind.Replay turns) texts are = rw are.0 refl

module _ (words : List (String Global)) where
  -- so forms that the same words ask for read alike
  reads_alike : (form other : Form) → AskFor words form → AskFor words other → reads form ≡ reads other
  reads_alike form other asked again = reads_by_count form (map string_bytes words) asked ∙ sym (reads_by_count other (map string_bytes words) again)

  pub reads_too : (form other : Form) → AskFor words form → AskFor words other → reads other ≡ true → reads form ≡ true
  reads_too form other asked again reading = reads_alike form other asked again ∙ reading

  -- one word isn't two
  not_two : (a b c : List ℕ) → map string_bytes words ≡ a ∷ b ∷ [] → map string_bytes words ≡ c ∷ [] → ⊥
  not_two a b c two one = let same : a ∷ b ∷ [] ≡ c ∷ [] = sym two ∙ one in cc

  -- words of a generated load ask for no other form
  pub is_load : (n : ℕ) (form : Form) → AskFor words (kind.Gen n) → AskFor words form → (m : ℕ) × (form ≡ kind.Gen m)
  is_load n kind.Run load asked = absurd (not_two _ _ _ load.0 asked)
  is_load n kind.Trace load asked = absurd (not_two _ _ _ load.0 asked)
  is_load n kind.Info load asked = absurd (not_two _ _ _ load.0 asked)
  is_load n (kind.Gen m) load asked = (m, refl)
  is_load n (kind.Replay m) load asked =
      let same : codes "gen" ∷ decimal n ∷ [] ≡ codes "replay" ∷ decimal m ∷ [] = sym load.0 ∙ asked.0 in cc

  -- and so do those of a replay
  pub replay_is : (turns : ℕ) (form : Form) → AskFor words (kind.Replay turns) → AskFor words form → form ≡ kind.Replay turns
  replay_is turns kind.Run replay asked = absurd (not_two _ _ _ replay.0 asked)
  replay_is turns kind.Trace replay asked = absurd (not_two _ _ _ replay.0 asked)
  replay_is turns kind.Info replay asked = absurd (not_two _ _ _ replay.0 asked)
  replay_is turns (kind.Gen m) replay asked =
      let same : codes "replay" ∷ decimal turns ∷ [] ≡ codes "gen" ∷ decimal m ∷ [] = sym replay.0 ∙ asked.0 in cc
  replay_is turns (kind.Replay m) replay asked =
      let same : codes "replay" ∷ decimal m ∷ [] ≡ codes "replay" ∷ decimal turns ∷ [] = sym asked.0 ∙ replay.0 in
      let digits : decimal m ≡ decimal turns = cc in
      ap kind.Replay (decimal_injective m turns (omega (arith, asked.2)) (omega (arith, replay.2)) digits)

  -- a form is no replay, where the words ask for none
  pub no_replay : (form : Form) → AskFor words form → (AreReplay words → ⊥) → is_replay form ≡ false
  no_replay kind.Run asked none = refl
  no_replay kind.Trace asked none = refl
  no_replay kind.Info asked none = refl
  no_replay (kind.Gen n) asked none = refl
  no_replay (kind.Replay turns) asked none = absurd (none (turns, asked))

-- a form is a replay or isn't
pub replay_or_not : (form : Form) → ((turns : ℕ) × (form ≡ kind.Replay turns)) ⊎ (is_replay form ≡ false)
replay_or_not kind.Run = inr refl
replay_or_not kind.Trace = inr refl
replay_or_not kind.Info = inr refl
replay_or_not (kind.Gen n) = inr refl
replay_or_not (kind.Replay turns) = inl (turns, refl)

pub reading_is_not : (form : Form) → reads form ≡ true → is_replay form ≡ false
reading_is_not kind.Run reading = refl
reading_is_not kind.Trace reading = refl
reading_is_not kind.Info reading = refl
reading_is_not (kind.Gen n) reading = refl
reading_is_not (kind.Replay turns) reading = cc

module _ (left left' : Option (List ℕ)) (plan : Plan) where
  -- the plan of a form that reads is the spelled one
  pub plan_is_spelled : (form : Form) → reads form ≡ true → IsPlanOf form left left' plan → IsSpelled left left' plan
  plan_is_spelled kind.Run reading spelled = spelled
  plan_is_spelled kind.Trace reading spelled = spelled
  plan_is_spelled kind.Info reading spelled = spelled
  plan_is_spelled (kind.Gen n) reading made = cc
  plan_is_spelled (kind.Replay turns) reading imaged = cc

  pub spelled_is_plan : (form : Form) → reads form ≡ true → IsSpelled left left' plan → IsPlanOf form left left' plan
  spelled_is_plan kind.Run reading spelled = spelled
  spelled_is_plan kind.Trace reading spelled = spelled
  spelled_is_plan kind.Info reading spelled = spelled
  spelled_is_plan (kind.Gen n) reading spelled = cc
  spelled_is_plan (kind.Replay turns) reading spelled = cc
