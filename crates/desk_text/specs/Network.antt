-- Networks of addresses: prefixes, masks, and the texts that write a network. (networks(5), exports(5), inet(3))
use Rattle.std.specs.Prelude.{◌≡◌, ℕ, ◌+◌, ◌-◌, ◌*◌, ◌/◌, ◌^◌, ◌<◌, ◌≤◌, ◌==◌, Bool, Option, Some, None, Result, Ok, Err, List, if◌then◌else◌}
use Rattle.std.specs.List.{find, list_any, range_with_len, before_first, after_first}
use Rattle.desk_text.specs.Address.{read_short}
use Rattle.desk_text.specs.Bytes.{read_decimal}
use Rattle.desk_text.specs.declared.address.AddrFault.{AddrFault}
use Rattle.desk_text.specs.declared.address.AddrFault.TheVariants.{Prefix as BadPrefix}

-- how many addresses a network of this prefix has
abbrev pub block_size : ℕ → ℕ
block_size prefix = 2 ^ (32 - prefix)

-- the mask of a prefix: of its 32 bits, the first ones that the prefix counts are set
abbrev pub mask_of : ℕ → ℕ
mask_of prefix = 2 ^ 32 - block_size prefix

-- the prefix of 0 to 32 whose mask this is, if there is one: the mask is contiguous
unfoldable pub prefix_of_mask : ℕ → Option ℕ
prefix_of_mask mask = find (λ prefix. mask_of prefix == mask) (range_with_len 0 33)

-- a network: its first address, and how many first bits its addresses have in common
pub record Block : Type 0 where
  pub first : ℕ
  pub prefix : ℕ

-- a network that there is: its first address has no host bits
pub record IsBlock (block : Block) : Type 0 where
  pub prefix : block.prefix ≤ 32
  pub first : block.first < 2 ^ 32
  pub no_host_bits : block.first / block_size block.prefix * block_size block.prefix ≡ block.first

-- the network of this prefix that an address is in: its host bits are masked off
abbrev pub block_of : ℕ → ℕ → Block
block_of address prefix = record { first = address / block_size prefix * block_size prefix; prefix = prefix }

-- the address has the first bits of the network
abbrev pub covers : Block → ℕ → Bool
covers block address = address / block_size block.prefix == block.first / block_size block.prefix

-- the last address of a network
abbrev pub last_of : Block → ℕ
last_of block = block.first + (block_size block.prefix - 1)

-- the prefix that a text writes: a decimal of 0 to 32
abbrev pub read_prefix : List ℕ → Option ℕ
read_prefix text = read_decimal 32 text

-- a network as a text writes it: an address, host bits and all, and the prefix if one is written
pub record WrittenNet : Type 0 where
  pub addr : ℕ
  pub prefix : Option ℕ

-- an address with the prefix behind it, which has to be one
abbrev pub prefixed : ℕ → Option ℕ → Result WrittenNet AddrFault
prefixed addr (Some prefix) = Ok (record { addr = addr; prefix = Some prefix })
prefixed addr None = Err BadPrefix

-- what is made of an address that was read, or its fault
abbrev pub with_addr : Result ℕ AddrFault → (ℕ → Result WrittenNet AddrFault) → Result WrittenNet AddrFault
with_addr (Ok addr) made = made addr
with_addr (Err fault) made = Err fault

-- a network of one to four parts, the ones left out at the end being 0, and a prefix of 0 to 32 behind a `/`; or its
-- first fault, of the address before the prefix
abbrev pub read_net_text : List ℕ → Result WrittenNet AddrFault
read_net_text text =
    if list_any (λ b. b == 47) text
    then with_addr (read_short (before_first (λ b. b == 47) text))
    (λ addr. prefixed addr (read_prefix (after_first (λ b. b == 47) text)))
    else with_addr (read_short text) (λ addr. Ok (record { addr = addr; prefix = None }))
