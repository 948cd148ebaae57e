use Rattle.std.proofs.Common.{ℕ, ◌+◌, drop, sym, refl, ap, ◌∙◌, arith}
use Rattle.numbers.specs.code.Numbers.{read_bytes}
use Rattle.kinds.specs.Kind.{subterms}
use Rattle.places.proofs.Ways.{inside}
use Rattle.marks.specs.code.Followed as of
use Rattle.marks.proofs.Followed.{found_end, found_leaf, found_first, found_event, found_astray}
use Rattle.marks.proofs.Followed.{found_last}
use Rattle.marks.proofs.path.find.Goals as goal
use Rattle.marks.proofs.path.find.Goals.{in-1, in-2}

pub returns-then-below-eq0 : goal.returns-then-below-eq0
returns-then-below-eq0 c =
    found_leaf _ _ _ _ _ c.loop-i-test.true c.byte-digit.ensures
    (c.subterms-below.ensures ∙ ap subterms c.kind_of.ensures) c.if-below-eq0.true
    ∙ sym c.loop-i.invariant

pub overflow_add-term : goal.overflow_add-term
overflow_add-term c =
    omega (
      arith,
      inside _ _
          (λ z. c.if-below-eq0.false (c.subterms-below.ensures ∙ ap subterms c.kind_of.ensures ∙ z)),
    )

pub returns-in-1-2 : goal.returns-in-1-2
returns-in-1-2 c =
    found_event _ _ _ _ _ c.loop-i-test.true c.byte-digit.ensures
    (c.subterms-below.ensures ∙ ap subterms c.kind_of.ensures) c.if-below-eq0.false
    (omega arith) c.if-below-eq2.false c.event_end.ensures refl
    ∙ sym c.loop-i.invariant

pub last_subterm-term-requires : goal.last_subterm-term-requires
last_subterm-term-requires c =
    inside _ _ (λ z. c.if-below-eq0.false
    (c.subterms-below.ensures ∙ ap subterms c.kind_of.ensures ∙ z))

pub returns-in_default : goal.returns-in_default
returns-in_default c =
    found_astray _ _ _ _ _ c.loop-i-test.true c.byte-digit.ensures
    (c.subterms-below.ensures ∙ ap subterms c.kind_of.ensures) c.if-below-eq0.false
    (λ z. omega arith) (λ z. omega arith)
    ∙ sym c.loop-i.invariant

pub loop-i-preserved : goal.loop-i-preserved
loop-i-preserved c =
    let ks = c.args.table.now.kinds in
    let xs = c.args.table.now.after in
    let more = c.loop-i-test.true in
    let digit = c.byte-digit.ensures in
    let count = c.subterms-below.ensures ∙ ap subterms c.kind_of.ensures in
    let on : ℕ → ℕ = λ u. of.find ks xs u (drop (c.loop-i.i + 1) (read_bytes c.args.chars.now)) in
    c.loop-i.invariant
    ∙ elim c.match-digit.branch [
      | in-1 w ↦ found_first _ ks xs _ _ more digit count c.if-below-eq0.false (omega arith) w.if-below-eq2.true
          ∙ sym (ap on w.term-is)
      | in-2 w ↦ found_last _ ks xs _ _ more digit count c.if-below-eq0.false
          (λ z. omega arith) (omega arith) w.last_subterm-term.ensures ∙ sym (ap on w.term-is)
    ]

pub returns : goal.returns
returns c =
    c.own_here.ensures ∙ found_end _ _ _ c.loop-i.term c.loop-i.i
    c.loop-i-test.false
    ∙ sym c.loop-i.invariant
