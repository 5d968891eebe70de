use Rattle.std.proofs.Common.{◌≡◌, ◌++◌, List, ℕ, OnOk, string_bytes, subst}
use Rattle.afr_report.proofs.PlacesLemmas.{healer_found}
use Rattle.afr_report.proofs.healers.push_healer.Goals as goal

pub returns : goal.returns
returns c = record {
  ok =
      subst (λ (t : List ℕ). OnOk c.push_healer_at.result (string_bytes c.push_healer_at.new.out ≡ string_bytes c.args.out.now ++ t))
      (healer_found c.args.words.now c.args.healer.0 c.args.rounds.now c.own_places-own.result.now c.args.lists.now c.args.log.now.items c.own_places-own.ensures c.requires.lists c.requires.small)
      c.push_healer_at.ensures.ok;
}
