-- `cache::shape_of` meets its contract: the kind of the head, where there is one.
use Rattle.std.proofs.Common.{sym, ◌∙◌, eqb-true}
use Rattle.cache.proofs.Shapes.{of_six, of_four, of_none}
use Rattle.cache.proofs.shape_of.Goals as goal
use Rattle.cache.proofs.shape_of.Goals.{else-not-is_empty-via-then-not-is_empty+else-cache-eq-HEAD_KIND_V6, else-not-is_empty-via-else-not-is_empty}

pub returns-then-cache-eq-HEAD_KIND_V6 : goal.returns-then-cache-eq-HEAD_KIND_V6
returns-then-cache-eq-HEAD_KIND_V6 c = of_six _ c.if-cache-eq-HEAD_KIND_V6.true

pub returns : goal.returns
returns c =
    elim c.else-not-is_empty.branch [
      | else-not-is_empty-via-then-not-is_empty+else-cache-eq-HEAD_KIND_V6 w ↦ of_four _ w.if-cache-eq-HEAD_KIND_V6.false
      | else-not-is_empty-via-else-not-is_empty w ↦ of_none _ (eqb-true _ _ (sym c.is_empty.ensures ∙ w.if-not-is_empty.false))
    ]
