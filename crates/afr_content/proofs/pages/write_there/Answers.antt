-- The write is that of the one page.
use Rattle.std.proofs.Common.{◌/◌, sym, ◌∙◌, inl, inr, arith}
use Rattle.std.proofs.lemmas.Bool.{cases_eq}
use Rattle.afr_content.specs.Kept.{kept}
use Rattle.afr_content.proofs.Places.{overlaid_one, overlaid_other}
use Rattle.afr_content.proofs.pages.write_there.Goals as goal

pub returns-clause-yes : goal.returns-clause-yes
returns-clause-yes c = λ yes q. elim (cases_eq q (c.args.at / 4096)) [
  | inl here ↦ rw here (c.write_in_room.ensures.yes yes ∙ sym (overlaid_one c.args.at c.args.bytes.now (kept c.args.pages.now.entries) (omega arith)))
  | inr other ↦ c.write_in_room.ensures.others q other ∙ sym (overlaid_other c.args.at c.args.bytes.now (kept c.args.pages.now.entries) q (omega arith) other)
]

pub returns-clause-no : goal.returns-clause-no
returns-clause-no c = λ no q. elim (cases_eq q (c.args.at / 4096)) [
  | inl here ↦ rw here (c.write_in_room.ensures.no no)
  | inr other ↦ c.write_in_room.ensures.others q other
]
