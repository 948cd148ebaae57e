-- `frames::read_term` meets its contract. The kind tells the shape, and the count of bytes whether
-- the line has it; a payload is at most eight bytes. Assumes nothing.
use Rattle.std.proofs.Common.{◌≡◌, ◌≤◌, ◌∙◌, refl, arith}
use Rattle.std.proofs.lemmas.Grind.{common_steps}
use Rattle.kinds.specs.Kind.{payload_bytes}
use Rattle.kinds.proofs.KindLaws.{payload_most}
use Rattle.frames.proofs.Frames.{fits, misfits, term, no_kind, number_behind}
use Rattle.frames.proofs.read_term.Goals.{then-not-contains-via-then-not-contains, then-not-contains-via-else-not-contains+then-count-want}
use Rattle.frames.proofs.read_term.Goals as goal

pub returns-then-not-contains : goal.returns-then-not-contains
returns-then-not-contains c =
    let kind = c.byte-kind.result in
    elim c.then-not-contains.branch [
      | then-not-contains-via-then-not-contains w ↦
          no_kind _ c.byte-kind.ensures c.requires (λ l m. grind (arith, common_steps))
      | then-not-contains-via-else-not-contains+then-count-want w ↦
          let low : 1 ≤ kind = grind (arith, common_steps) in
          let high : kind ≤ 8 = grind (arith, common_steps) in
          let width : c.from-want.result ≡ payload_bytes kind = c.from-want.ensures ∙ c.payload_bytes.ensures in
          misfits _ (term _ c.byte-kind.ensures low high width refl) c.requires w.if-count-want.true
    ]

pub returns : goal.returns
returns c =
    let kind = c.byte-kind.result in
    let low : 1 ≤ kind = grind (arith, common_steps) in
    let high : kind ≤ 8 = grind (arith, common_steps) in
    let width : c.from-want.result ≡ payload_bytes kind = c.from-want.ensures ∙ c.payload_bytes.ensures in
    let few = payload_most kind in
    let payload = number_behind c.args.chars.now 2 c.number.ensures (omega (arith, width, few)) in
    fits _ (term _ c.byte-kind.ensures low high width payload) c.requires c.if-count-want.false
