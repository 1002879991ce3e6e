use Rattle.std.specs.Char.{is_ascii_digit}
use Rattle.np_file.proofs.Pieces.{all_in_prefix}
use Rattle.np_file.proofs.parts.unspaced_number.Goals as goal

pub decimal_number-requires : goal.decimal_number-requires
decimal_number-requires c = rw (c.split_at.ensures.front, c.digit_count.ensures.value)
    (all_in_prefix is_ascii_digit c.args.text.now)
