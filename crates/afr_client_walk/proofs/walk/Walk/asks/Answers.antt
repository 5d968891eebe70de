use Rattle.std.proofs.Common.{subst}
use Rattle.afr_lines.specs.declared.line.Next.{Next}
use Rattle.afr_discipline.specs.Free.{Allows}
use Rattle.afr_client_walk.proofs.WalkLemmas.{asked_small, asks_allowed}
use Rattle.afr_client_walk.proofs.walk.Walk.asks.Goals as goal

pub returns-clause-allowed : goal.returns-clause-allowed
returns-clause-allowed c = λ b e. subst (λ (line : Next). Allows c.args.self.now.register line) (c.ask.ensures.some b e) (asks_allowed c.args.self.now c.requires.walk (c.ask.ensures.walking b e))

pub returns-clause-small : goal.returns-clause-small
returns-clause-small c = λ b e. asked_small c.args.self.now b c.ask.new.request c.requires.walk (c.ask.ensures.walking b e) (c.ask.ensures.some b e)
