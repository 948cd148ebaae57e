-- `pairing::keep` meets its contract, by which ends have numbers and which is lower. Assumes nothing.
use Rattle.std.proofs.Common.{inl, inr}
use Rattle.pairing.proofs.Renumbering.{no_first, no_second, both_turned, both_straight}
use Rattle.pairing.proofs.keep.Goals as goal
use Rattle.pairing.proofs.keep.Goals.{then-first-eq0-via-then-first-eq0, then-first-eq0-via-else-first-eq0+then-second-eq0}
use Rattle.pairing.proofs.keep.Goals.{then-either+then-second-first, else-either}
use Rattle.pairing.proofs.keep.Goals.{else-either-via-then-either+else-second-first, else-either-via-else-either}

pub returns-then-first-eq0 : goal.returns-then-first-eq0
returns-then-first-eq0 c =
    elim c.then-first-eq0.branch [
      | then-first-eq0-via-then-first-eq0 w ↦
          let told = no_first _ _ _ _ _ _ w.if-first-eq0.true in
          record { value = told.0; to_after = told.1 }
      | then-first-eq0-via-else-first-eq0+then-second-eq0 w ↦
          let told = no_second _ _ _ _ _ _ w.if-second-eq0.true in
          record { value = told.0; to_after = told.1 }
    ]

pub returns : goal.returns
returns c =
    let first = c.if-first-eq0.false in
    let second = c.if-second-eq0.false in
    elim c.if-either.branch [
      | then-either+then-second-first w ↦
          let told = both_turned _ _ _ _ _ _ first second w.if-either.true w.if-second-first.true in
          rw w.low-is (record { value = told.0; to_after = told.1 })
      | else-either w ↦
          let told = both_straight _ _ _ _ _ _ first second (elim w.else-either.branch [
            | else-either-via-then-either+else-second-first v ↦ inr v.if-second-first.false
            | else-either-via-else-either v ↦ inl v.if-either.false
          ]) in
          rw w.low-is (record { value = told.0; to_after = told.1 })
    ]
