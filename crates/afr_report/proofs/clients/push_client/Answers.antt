use Rattle.std.proofs.Common.{◌≡◌, ◌++◌, List, ℕ, OnOk, string_bytes, subst}
use Rattle.afr_report.proofs.PlacesLemmas.{client_found}
use Rattle.afr_report.proofs.clients.push_client.Goals as goal

pub returns : goal.returns
returns c = record {
  ok =
      subst (λ (t : List ℕ). OnOk c.push_client_at.result (string_bytes c.push_client_at.new.out ≡ string_bytes c.args.out.now ++ t))
      (client_found c.args.words.now c.args.client.0 c.args.commands.now c.own_places-own.result.now c.args.lists.now c.args.log.now.items c.own_places-own.ensures c.requires.lists c.requires.small)
      c.push_client_at.ensures.ok;
}
