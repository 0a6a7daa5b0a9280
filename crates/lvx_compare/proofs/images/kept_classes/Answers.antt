use Rattle.std.proofs.Common.{◌≡◌, ◌<◌, ◌∙◌, ℕ, Bool, List, Option, map, ap, sym, subst}
use Rattle.std.specs.List.{All}
use Rattle.lvx_compare.specs.declared.images.Image.{Image}
use Rattle.lvx_compare.specs.Stages.{AreImages, is_kept, AreMarks}
use Rattle.lvx_compare.proofs.Keeping.{Compared, marks_are, turned, classes_low}
use Rattle.lvx_compare.proofs.images.kept_classes.Goals as goal

pub images-requires-clause-inside : goal.images-requires-clause-inside
images-requires-clause-inside c =
    subst (λ (m : ℕ). All (λ class. class < m) c.classes.result.now) (sym c.count.ensures)
    (subst (λ (cs : List ℕ). All (λ class. class < c.args.a.now.count) cs) (sym c.classes.ensures.classes) (classes_low c.args.a.now c.classes.ensures.sound))

pub images-requires-2-clause-inside : goal.images-requires-2-clause-inside
images-requires-2-clause-inside c =
    subst (λ (m : ℕ). All (λ class. class < m) c.classes-2.result.now) (sym c.count-2.ensures)
    (subst (λ (cs : List ℕ). All (λ class. class < c.args.b.now.count) cs) (sym c.classes-2.ensures.classes) (classes_low c.args.b.now c.classes-2.ensures.sound))

pub returns : goal.returns
returns c =
    let a = c.args.a.now in
    let b = c.args.b.now in
    let there = c.in_ok-there.there.items in
    let here = c.in_ok-here.here.items in
    let ahead = c.in_ok-ahead.ahead.items in
    let back = c.in_ok-back.back.items in
    let ahead_are : AreImages a.classes there ahead =
    subst (λ (cs : List ℕ). AreImages cs there ahead) c.classes.ensures.classes (subst (λ (fs : List (Option ℕ)). AreImages c.classes.result.now fs ahead) c.deref.ensures.value c.in_ok-ahead.ensures.images) in
    let back_are : AreImages b.classes here back =
    subst (λ (cs : List ℕ). AreImages cs here back) c.classes-2.ensures.classes (subst (λ (fs : List (Option ℕ)). AreImages c.classes-2.result.now fs back) c.deref-2.ensures.value c.in_ok-back.ensures.images) in
    let all : Compared a b there here ahead back = record {
      first = c.classes.ensures.sound;
      second = c.classes-2.ensures.sound;
      there_are = c.in_ok-there.ensures;
      here_are = c.in_ok-here.ensures;
      ahead_are = ahead_are;
      back_are = back_are;
      ahead_many = c.in_ok-ahead.ensures.many ∙ c.count.ensures;
      back_many = c.in_ok-back.ensures.many ∙ c.count-2.ensures;
    } in
    let made : c.in_ok-marks.field-0.items ≡ map (is_kept back) ahead =
    c.in_ok-marks.ensures ∙ ap (λ (is : List Image). map (is_kept is) c.deref-3.result.now) c.deref-4.ensures.value ∙ ap (map (is_kept back)) c.deref-3.ensures.value in
    let remade : c.in_ok-marks-2.field-0.items ≡ map (is_kept ahead) back =
    c.in_ok-marks-2.ensures ∙ ap (λ (is : List Image). map (is_kept is) c.deref-5.result.now) c.deref-6.ensures.value ∙ ap (map (is_kept ahead)) c.deref-5.ensures.value in
    record {
      first = subst (λ (ms : List Bool). AreMarks a b ms) (sym made) (marks_are a b there here ahead back all);
      second = subst (λ (ms : List Bool). AreMarks b a ms) (sym remade) (marks_are b a here there back ahead (turned a b there here ahead back all));
    }
