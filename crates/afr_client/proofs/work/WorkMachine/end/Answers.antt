use Rattle.std.proofs.Common.{◌≡◌, sym, subst}
use Rattle.afr_lines.specs.declared.line.Next.TheVariants as next
use Rattle.afr_lines.specs.declared.reply.Reply.{Reply}
use Rattle.afr_lines.specs.declared.reply.Reply.TheVariants.{Failed}
use Rattle.afr_discipline.specs.Free.{Allows}
use Rattle.afr_client_entry.specs.Entry as entry
use Rattle.afr_client_entry.specs.Renames.Rename as rename
use Rattle.afr_client_write.specs.Write as write
use Rattle.afr_client.specs.Work.{idle_register, next_of, register_of}
use Rattle.afr_client.specs.declared.work.WorkMachine.{WorkMachine}
use Rattle.afr_client.specs.declared.work.WorkMachine.TheVariants.{Idle}
use Rattle.afr_client.proofs.WorkLemmas.{allowed_next}
use Rattle.afr_client.proofs.work.WorkMachine.end.Goals as goal

pub returns-in-Idle-clause-allowed : goal.returns-in-Idle-clause-allowed
returns-in-Idle-clause-allowed c = λ said e.
    let same : Failed ≡ said = cc e in
    subst (λ (w : WorkMachine). Allows (register_of w) (next.End said)) (sym c.in-Idle.is) (subst (λ (r : Reply). Allows idle_register (next.End r)) same (allowed_next Idle tt 0))

pub returns-in-Write-clause-some : goal.returns-in-Write-clause-some
returns-in-Write-clause-some c = λ said e at.
    let same : c.deref-in-Write.result.now ≡ c.in-Write.machine = cc in
    subst (λ (w : WorkMachine). next_of at w ≡ next.End said) (sym c.in-Write.is) (subst (λ (m : write.Write). write.next_of at m ≡ next.End said) same (c.end-in-Write.ensures.some said e at))

pub returns-in-Entry-clause-some : goal.returns-in-Entry-clause-some
returns-in-Entry-clause-some c = λ said e at.
    let same : c.deref-in-Entry.result.now ≡ c.in-Entry.machine = cc in
    subst (λ (w : WorkMachine). next_of at w ≡ next.End said) (sym c.in-Entry.is) (subst (λ (m : entry.Entering). entry.next_of at m ≡ next.End said) same (c.end-in-Entry.ensures.some said e at))

pub returns-in-Rename-clause-some : goal.returns-in-Rename-clause-some
returns-in-Rename-clause-some c = λ said e at.
    let same : c.deref-in-Rename.result.now ≡ c.in-Rename.machine = cc in
    subst (λ (w : WorkMachine). next_of at w ≡ next.End said) (sym c.in-Rename.is) (subst (λ (m : rename.Renaming). rename.next_of at m ≡ next.End said) same (c.end-in-Rename.ensures.some said e at))
