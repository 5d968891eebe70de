use Rattle.std.proofs.Common.{sym, subst, reverse, IfOk, ◌↔◌, ◌≡◌, true}
use Rattle.afr_base.specs.declared.ids.Kind.{Kind}
use Rattle.afr_trace_safe.specs.Judged.{AllCurrent}
use Rattle.afr_trace_safe.proofs.kinds.all_current.Goals as goal

pub returns-in-Bytes : goal.returns-in-Bytes
returns-in-Bytes c = subst (λ (kind : Kind). IfOk c.all_bytes_current.result (λ flag. (flag ≡ true) ↔ AllCurrent c.args.plan.now (reverse c.args.log.now) c.args.b.0 c.args.g kind)) (sym c.in-Bytes.is) c.all_bytes_current.ensures

pub returns-in-Attrs : goal.returns-in-Attrs
returns-in-Attrs c = subst (λ (kind : Kind). IfOk c.all_attrs_current.result (λ flag. (flag ≡ true) ↔ AllCurrent c.args.plan.now (reverse c.args.log.now) c.args.b.0 c.args.g kind)) (sym c.in-Attrs.is) c.all_attrs_current.ensures

pub returns-in-Names : goal.returns-in-Names
returns-in-Names c = subst (λ (kind : Kind). IfOk c.all_names_current.result (λ flag. (flag ≡ true) ↔ AllCurrent c.args.plan.now (reverse c.args.log.now) c.args.b.0 c.args.g kind)) (sym c.in-Names.is) c.all_names_current.ensures
