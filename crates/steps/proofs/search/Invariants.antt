use Rattle.std.proofs.Common.{◌-◌, ◌+◌, ◌<◌, ◌≤◌, Some, true, false}
use Rattle.steps.proofs.search.Given as goal

-- lo passes, unless it is 0, and hi fails, unless it is over the cap
abbrev pub invariant-loop-lo : goal.invariant-loop-lo
invariant-loop-lo g l =
    (l.lo < l.hi)
    × (l.hi ≤ l.cap + 1)
    × (l.step < 4294967296)
    × (0 < l.lo → goal.F-post g l.passes l.lo (Some true))
    × (l.hi ≤ l.cap → goal.F-post g l.passes l.hi (Some false))

abbrev pub decreases-loop-lo : goal.decreases-loop-lo
decreases-loop-lo g l = l.hi - l.lo
