use Rattle.std.proofs.Common.{◌||◌, bytes_eq, sym, ap, ◌∙◌, []}
use Rattle.std.proofs.lemmas.List.{get_or_read}
use Rattle.text_names.proofs.Known.{one_more}
use Rattle.text_names.proofs.taken.Taken.new.Goals as goal

pub loop-text-preserved : goal.loop-text-preserved
loop-text-preserved c = λ other.
    let i = c.loop-text.text-index in
    c.in_ok-put.ensures other
    ∙ ap (λ b. bytes_eq other c.as_bytes.result.now || b) (c.loop-text.invariant other)
    ∙ one_more c.args.texts.now i c.as_bytes.result.now other c.loop-text-test.true
    (sym (get_or_read c.args.texts.now i c.text-item.result c.loop-text-test.true c.text-item.is []) ∙ sym c.as_bytes.ensures)
