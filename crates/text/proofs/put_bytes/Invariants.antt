use Rattle.std.proofs.Common.{◌≡◌, ◌+◌, ◌-◌, ◌≤◌, length, drop}
use Rattle.text.specs.Slices.{put}
use Rattle.text.proofs.put_bytes.Given as goal

-- what is left to store makes the whole
abbrev pub invariant-loop-j : goal.invariant-loop-j
invariant-loop-j l = record {
  at : l.o ≡ l.at + l.j;
  within : l.j ≤ length l.word;
  size : length l.out ≡ length l.initial.out;
  out : put l.out l.o (drop l.j l.word) ≡ put l.initial.out l.at l.word;
}

abbrev pub decreases-loop-j : goal.decreases-loop-j
decreases-loop-j l = length l.word - l.j
