-- The errors for lists and parts that are rejected, and their messages.
pub use Rattle.arrow2_bitmap.specs.Failures.{bit_capacity, too_long}
pub use Rattle.arrow2_offset.specs.Failures.{first_broken_rule, rule_words, not_offsets_message, IsOutOfSpecOrOutOfMemory, RejectsNumbers, RejectsOrRunsOut}
pub use Rattle.arrow2_validity.specs.Failures.{unequal_lengths_message}
pub use Rattle.arrow2_text.specs.Failures.{RejectsParts, past_the_values_message, other_binary_layout_message, other_text_layout_message, not_utf8}
