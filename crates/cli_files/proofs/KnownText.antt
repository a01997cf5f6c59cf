-- The text of the bytes that a reader is known to have, for `files::text_by`.
use Rattle.std.proofs.Common.{◌≡◌, ◌<◌, ◌≤◌, ◌⊎◌, ℕ, Bool, true, false, true≢false, codes, List, [], length, take, Option, Some, None, IfOk, IfSome, Result, Ok, Err, String, nat_lt, refl, sym, subst, ap, ◌∙◌, arith, inl, inr}
use Rattle.std.proofs.lemmas.Bool.Decides.{nat_tests}
use Rattle.std.proofs.lemmas.List.{length-take-le, take_all}
use Rattle.std.proofs.lemmas.Slice.Eq.{bytes_eq-Decides}
use Rattle.std.specs.Str.{bytes_eq}
use Rattle.std.specs.declared.io.ErrorKind.{ErrorKind}
use Rattle.cli_files.specs.Files.{IsNoText, ReadsNamed, ReadsText, TakesText}
use Rattle.cli_output.specs.Failure.{IsUnread}
use Rattle.cli_files.specs.Input.{longest_input, text_of}
use Rattle.cli_output.specs.declared.failure.Failure.{Failure}
use Rattle.cli_output.specs.declared.failure.TextFault.{TextFault}

over : (xs : List ℕ) → 16777216 < length xs → nat_lt longest_input (length xs) ≡ true
over xs long = grind (arith, nat_tests)

within_or_over : (n : ℕ) → (n ≤ 16777216) ⊎ (16777216 < n)
within_or_over n = grind (arith, nat_tests)

-- what is read of too many bytes is too long as well
pub text_of_front : (given : List ℕ) → text_of (take 16777217 given) ≡ text_of given
text_of_front given =
    elim (within_or_over (length given)) [
      | inl few ↦ ap text_of (take_all 16777217 given (omega arith))
      | inr many ↦
          let front : length (take 16777217 given) ≡ 16777217 = length-take-le 16777217 given (omega arith) in
          rw (over (take 16777217 given) (omega arith), over given many) refl
    ]

-- a file that could not be read has no text, whatever its bytes
pub no_text : (argument : List ℕ) (word : List ℕ) (read : Result (List ℕ) TextFault) (failure : Failure) → IsUnread argument word failure → IsNoText argument word read failure
no_text argument word (Ok text) failure unread = unread
no_text argument word (Err fault) failure unread = inl unread

module _ {A : Type 0} where
  -- the text of the bytes that were read: for `-` that of the bytes that the input has
  pub known_text : (argument : List ℕ) (word : List ℕ) (known : Option (List ℕ)) (bytes : List ℕ) (result : Result (String A) Failure) → (word ≡ codes "-" → IfSome known (λ given. bytes ≡ take 16777217 given)) → TakesText argument word (text_of bytes) result → ReadsText argument word known result
  known_text argument word known bytes result read taken = go (bytes_eq word (codes "-")) refl known read
    where
      go : (b : Bool) → bytes_eq word (codes "-") ≡ b → (known : Option (List ℕ)) → (word ≡ codes "-" → IfSome known (λ given. bytes ≡ take 16777217 given)) → ReadsText argument word known result
      go b is None read = record { bytes = bytes; contents = λ dash. tt; text = taken }
      go false is (Some given) read = record {
        bytes = bytes;
        contents = λ dash. absurd (true≢false (sym ((bytes_eq-Decides word (codes "-")).1 dash) ∙ is));
        text = taken;
      }
      go true is (Some given) read = record {
        bytes = given;
        contents = λ dash. refl;
        text =
            subst (λ (text : Result (List ℕ) TextFault). TakesText argument word text result)
            (ap text_of (read ((bytes_eq-Decides word (codes "-")).0 is)) ∙ text_of_front given) taken;
      }

  -- the failure where no byte of the file matters
  pub unread_text : (argument : List ℕ) (word : List ℕ) (known : Option (List ℕ)) (failure : Failure) → IsUnread argument word failure → ReadsText {A = A} argument word known (Err failure)
  unread_text argument word None failure unread = record { bytes = []; contents = λ dash. tt; text = no_text argument word (text_of []) failure unread }
  unread_text argument word (Some given) failure unread = record { bytes = given; contents = λ dash. refl; text = no_text argument word (text_of given) failure unread }

  -- the text of the bytes that were read of a named file
  pub named_text : (argument : List ℕ) (word : List ℕ) (known : Option (List ℕ)) (bytes : List ℕ) (result : Result (String A) Failure) → IfSome known (λ given. bytes ≡ take 16777217 given) → TakesText argument word (text_of bytes) result → ReadsNamed argument word known result
  named_text argument word None bytes result read taken = record { bytes = bytes; contents = tt; text = taken }
  named_text argument word (Some given) bytes result read taken = record {
    bytes = given;
    contents = refl;
    text =
        subst (λ (text : Result (List ℕ) TextFault). TakesText argument word text result)
        (ap text_of read ∙ text_of_front given) taken;
  }

  -- the failure where no byte of a named file matters
  pub unread_named : (argument : List ℕ) (word : List ℕ) (known : Option (List ℕ)) (failure : Failure) → IsUnread argument word failure → ReadsNamed {A = A} argument word known (Err failure)
  unread_named argument word None failure unread = record { bytes = []; contents = tt; text = no_text argument word (text_of []) failure unread }
  unread_named argument word (Some given) failure unread = record { bytes = given; contents = refl; text = no_text argument word (text_of given) failure unread }

  -- a text is that of a file that was opened
  pub opened_text : (told : Option (Option ErrorKind)) (result : Result (String A) Failure) → IfSome told (λ kind. kind ≡ None) → IfSome told (λ kind. IfOk result (λ _. kind ≡ None))
  opened_text None result opened = tt
  opened_text (Some kind) (Ok text) opened = opened
  opened_text (Some kind) (Err failure) opened = tt
