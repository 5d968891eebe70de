use Rattle.std.proofs.Common.{refl}
use Rattle.afr_trace_check.proofs.told.told.Goals as goal

pub returns-in-ReadBytes : goal.returns-in-ReadBytes
returns-in-ReadBytes c = rw c.in-ReadBytes.is (c.if_there.ensures _ (λ o. refl))

pub returns-in-ReadName : goal.returns-in-ReadName
returns-in-ReadName c = rw c.in-ReadName.is (c.if_there-in-ReadName.ensures _ (λ o. refl))

pub returns-in-List : goal.returns-in-List
returns-in-List c = rw c.in-List.is (c.if_there-in-List.ensures _ (λ o. refl))

pub returns-in-ReadAttr : goal.returns-in-ReadAttr
returns-in-ReadAttr c = rw c.in-ReadAttr.is (c.if_there-in-ReadAttr.ensures _ (λ o. refl))

pub returns-in-ReadAttrs : goal.returns-in-ReadAttrs
returns-in-ReadAttrs c = rw c.in-ReadAttrs.is (c.if_there-in-ReadAttrs.ensures _ (λ o. refl))

pub returns-in-Pre : goal.returns-in-Pre
returns-in-Pre c = rw c.in-Pre.is (c.if_there-in-Pre.ensures _ (λ o. refl))

pub returns-in-Post : goal.returns-in-Post
returns-in-Post c = rw c.in-Post.is (c.if_there-in-Post.ensures _ (λ o. refl))

pub returns-in-Mend : goal.returns-in-Mend
returns-in-Mend c = rw (c.in-Mend.is, ← c.repaired.ensures) (c.if_there-in-Mend.ensures _ (λ o. refl))

pub returns-in-Settle : goal.returns-in-Settle
returns-in-Settle c = rw c.in-Settle.is (c.if_there-in-Settle.ensures _ (λ o. refl))
