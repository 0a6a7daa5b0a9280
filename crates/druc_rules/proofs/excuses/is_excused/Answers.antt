use Rattle.std.proofs.Common.{refl, inl, inr, rules}
use Rattle.druc_rules.proofs.Excused.{one_to, one_from, excused_so, tested_so}
use Rattle.druc_rules.proofs.excuses.is_excused.Goals as goal

pub returns-then-are_of_one : goal.returns-then-are_of_one
returns-then-are_of_one c = (
  λ h. excused_so c.args.layout.now.shapes.now c.args.first c.args.second
      (inl
      (one_to c.args.layout.now.shapes.now c.args.first c.args.second c.index-layout-first.result c.index-layout-second.result c.requires.first c.requires.second
      (c.are_of_one.ensures.0 (search (rules, c.if-are_of_one.true))))),
  λ h. refl,
)

pub returns-then-are_tied : goal.returns-then-are_tied
returns-then-are_tied c = (
  λ h. excused_so c.args.layout.now.shapes.now c.args.first c.args.second (inr (inl (c.are_tied.ensures.0 (search (rules, c.if-are_tied.true))))),
  λ h. refl,
)

pub returns-then-is_covered : goal.returns-then-is_covered
returns-then-is_covered c = (
  λ h. excused_so c.args.layout.now.shapes.now c.args.first c.args.second (inr (inr (inl (c.is_covered.ensures.0 (search (rules, c.if-is_covered.true)))))),
  λ h. refl,
)

pub returns : goal.returns
returns c =
    let all = c.args.layout.now.shapes.now in (
      λ h. excused_so all c.args.first c.args.second (inr (inr (inr (c.is_covered-2.ensures.0 h)))),
      λ e. elim (tested_so all c.args.first c.args.second c.requires.first c.requires.second c.requires.apart e) [
        | inl one ↦ absurd
            (search (
              rules,
              c.if-are_of_one.false,
              c.are_of_one.ensures.1
                  (one_from all c.args.first c.args.second c.index-layout-first.result c.index-layout-second.result c.requires.first c.requires.second
                  one),
            ))
        | inr h ↦ elim h [
          | inl tied ↦ absurd (search (rules, c.if-are_tied.false, c.are_tied.ensures.1 tied))
          | inr k ↦ elim k [
            | inl first ↦ absurd (search (rules, c.if-is_covered.false, c.is_covered.ensures.1 first))
            | inr second ↦ c.is_covered-2.ensures.1 second
          ]
        ]
      ],
    )
