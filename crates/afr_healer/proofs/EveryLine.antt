-- Each line of a healer keeps what the log keeps: requests and all others.
use Rattle.afr_healer.proofs.AsksKeep.{asks_keep}
use Rattle.afr_healer.proofs.Gathered.{RoundLaws}
use Rattle.afr_healer.proofs.WritesLine.{line_keeps}
use Rattle.afr_healer.specs.Laws.{LineKeepsRound}

pub every_line : RoundLaws → LineKeepsRound
every_line laws crawl p a log servers new x y line before acting ready s =
    line_keeps laws crawl p a log servers before x y new line acting s (λ carries b asked e k. asks_keep laws crawl p a log servers new x y line before acting ready s.round s.present b asked e k)
