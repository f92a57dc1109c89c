use Rattle.report_text.proofs.line.+push_hex_digits.Given as goal

abbrev pub decreases-push_hex_digits : goal.decreases-push_hex_digits
decreases-push_hex_digits l = l.digits
