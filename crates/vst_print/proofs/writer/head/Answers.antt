use Rattle.std.proofs.Common.{◌≡◌, ℕ, List, OnOk, subst}
use Rattle.vst_print.proofs.Whole.{head_put}
use Rattle.vst_print.proofs.writer.head.Goals as goal

pub returns : goal.returns
returns c =
    subst (λ (x : List ℕ). OnOk c.append-3.result (c.append-3.new.self ≡ x))
    (head_put c.args.out.now c.args.name.now c.append.new.self c.append-2.new.self c.as_bytes.result.now c.in_ok-append.ensures.ok c.as_bytes.ensures c.in_ok-append-2.ensures.ok)
    c.append-3.ensures.ok
