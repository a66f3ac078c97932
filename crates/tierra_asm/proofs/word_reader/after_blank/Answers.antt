use Rattle.std.proofs.Common.{◌≡◌, slice_get, sym, ap, ◌∙◌, arith, true}
use Rattle.std.specs.List.{position_or_len}
use Rattle.tierra_asm.specs.Words.{is_line_feed, begins_comment}
use Rattle.tierra_asm.proofs.Cuts.{cut_after, cut_at_first, drop_line_feed, drop_separator, drop_comment, separator_is_ascii, line_feed_is_ascii}
use Rattle.tierra_asm.proofs.word_reader.after_blank.Goals as goal

pub range_from-requires : goal.range_from-requires
range_from-requires c =
    let first = ap (λ l. slice_get l 0) (sym c.as_bytes-bytes.ensures.value) ∙ sym c.in_ok-first.ensures.value in
    λ _. cut_after c.in_ok-first.field-0.now c.args.rest.now c.utf8.rest first (omega arith)

pub range_from-requires-then-is_separator : goal.range_from-requires-then-is_separator
range_from-requires-then-is_separator c =
    let first = ap (λ l. slice_get l 0) (sym c.as_bytes-bytes.ensures.value) ∙ sym c.in_ok-first.ensures.value in
    λ _. cut_after c.in_ok-first.field-0.now c.args.rest.now c.utf8.rest first (separator_is_ascii c.in_ok-first.field-0.now (cc))

pub range_from-requires-then-first-eq59 : goal.range_from-requires-then-first-eq59
range_from-requires-then-first-eq59 c =
    let end : c.comment_len.result ≡ position_or_len is_line_feed c.args.rest.now = cc in
    λ _. rw end (cut_at_first is_line_feed line_feed_is_ascii c.args.rest.now)

pub returns-then-first-eq10-clause-same : goal.returns-then-first-eq10-clause-same
returns-then-first-eq10-clause-same c =
    let first = ap (λ l. slice_get l 0) (sym c.as_bytes-bytes.ensures.value) ∙ sym c.in_ok-first.ensures.value in
    rw (c.saturating_add.ensures, c.range_from.ensures.value) (drop_line_feed c.args.line c.in_ok-first.field-0.now c.args.rest.now first c.if-first-eq10.true)

pub returns-then-is_separator-clause-same : goal.returns-then-is_separator-clause-same
returns-then-is_separator-clause-same c =
    let first = ap (λ l. slice_get l 0) (sym c.as_bytes-bytes.ensures.value) ∙ sym c.in_ok-first.ensures.value in
    rw (c.range_from-then-is_separator.ensures.value) (drop_separator c.args.line c.in_ok-first.field-0.now c.args.rest.now first (cc))

pub returns-then-first-eq59-clause-same : goal.returns-then-first-eq59-clause-same
returns-then-first-eq59-clause-same c =
    let first = ap (λ l. slice_get l 0) (sym c.as_bytes-bytes.ensures.value) ∙ sym c.in_ok-first.ensures.value in
    let end : c.comment_len.result ≡ position_or_len is_line_feed c.args.rest.now = cc in
    let begins : begins_comment c.in_ok-first.field-0.now ≡ true = ap begins_comment c.if-first-eq59.true in
    rw (c.range_from-then-first-eq59.ensures.value, end) (drop_comment c.args.line c.in_ok-first.field-0.now c.args.rest.now first begins)
