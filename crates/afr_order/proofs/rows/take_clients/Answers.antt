use Rattle.std.proofs.Common.{◌≡◌, ◌+◌, arith}
use Rattle.afr_order.proofs.PassLemmas.{clients_done, clients_front, clients_may_end}
use Rattle.afr_order.proofs.rows.take_clients.Goals as goal

pub take_row-requires-clause-actors : goal.take_row-requires-clause-actors
take_row-requires-clause-actors g c = λ k l. let e : 1 + (c.args.done + k) ≡ 1 + c.args.done + k = omega arith in rw e at (c.requires.actors (c.args.done + k) (omega (arith, l, c.requires.within)))

pub returns-clause-front : goal.returns-clause-front
returns-clause-front g c = clients_front c.args.volume.now c.take_row.new.volume c.args.done c.args.clients c.requires.within c.requires.done c.take_row.ensures.front

pub returns-clause-ok : goal.returns-clause-ok
returns-clause-ok g c = clients_may_end c.args.volume.now c.take_row.new.volume c.args.done c.args.clients c.take_row.result c.requires.within c.requires.done c.take_row.ensures.ok

pub returns-clause-done : goal.returns-clause-done
returns-clause-done g c = λ ok l. clients_done c.args.volume.now c.take_row.new.volume c.args.done c.args.clients c.take_row.ensures.goes c.requires.done (c.take_row.ensures.done ok l)
